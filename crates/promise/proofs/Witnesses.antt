-- Calls on the small store, each as it is promised.
use Rattle.std.proofs.Common.{◌≡◌, ◌++◌, ◌≤◌, ℕ, zero, suc, Bool, true, false, ◌⊎◌, [], ◌∷◌, length, get_or, replicate, Some, None, Option, sym, refl, ap, ◌∙◌, subst, inl, inr, arith}
use Rattle.std.specs.Prelude.{cond, ◌==◌, ◌≢◌, codes}
use Rattle.std.proofs.lemmas.Option.{none-some, same_Some}
use Rattle.numbers.specs.Names.{Key}
use Rattle.layout.specs.Words.{blank}
use Rattle.tree.specs.Tree.{Entry}
use Rattle.disk.specs.Meaning.{Contents, In}
use Rattle.catalog.specs.Catalogs.{Catalog, entries, page_sectors, outside}
use Rattle.catalog.specs.Laws.{Sized}
use Rattle.promise.specs.declared.fault.FileFault.{FileFault}
use Rattle.promise.specs.declared.fault.FileFault.TheVariants.{NoRoom}
use Rattle.promise.specs.Faults.{is_three, by_disk}
use Rattle.promise.specs.Table.{File, Sort, Anonymous, Registered, Slot, Table, Call, New, Old, Delete, Set, Read, Write, Register, Close, Names, Answer, Done, Slotted, Riding, HasRead, Wrote, Named, No, NoRead, NoNames, slot_at, gives, moved, filled, changes, plain, waits, formatted, Spare, MayTake, Turn, said, gone, gone_read, gone_names, Proper}
use Rattle.promise.specs.Promise.{Open, View}
use Rattle.promise.specs.Calls.{seen, NamedAs, OpenAs, file_at, Head, DirectoryPut, Holds, Turned, says_three, Unput}
use Rattle.promise.specs.Examples.{at, at_end, hall, row, no_row, lost}
use Rattle.promise.specs.Witnesses.{sector_count, disk_of, contents, in_second, hall_sector, first_bytes, hall_entry, none_open, hall_open, free_after, formatted_store, new_store, written_store, registered_store, closed_store, deleted_store, lost_store, Does, Witnesses, Refused, waiting, off}
use Rattle.promise.proofs.Slots.{no-slot}
use Rattle.promise.proofs.StayProper.{turns, formatted-proper}
use Rattle.promise.proofs.Holding.{catalog-one, extents-one, holds-one}
use Rattle.promise.proofs.Turning.{false-true, took-by, directory-by, quiet, turning}
use Rattle.promise.proofs.Cards.{root-empty, root-hall, hall-long, hall-laid, hall-bytes, no-bytes, contents-long}
use Rattle.promise.proofs.Restarts.{format-done, format-lost, format-small, start-done, start-forgets, start-lost, start-small}
use Rattle.promise.proofs.Stores.{formatted-holds, new-holds, written-holds, registered-holds, closed-holds, deleted-holds}

-- TABLES that a store holds: like one of them, but for the files
abbrev over : Table → (ℕ → File) → Table
over t f = record { ready = t.ready; tree = t.tree; files = f; slots = t.slots; free = t.free }

same-table : (t u : Table) → t.ready ≡ u.ready → t.tree ≡ u.tree → t.slots ≡ u.slots → t.free ≡ u.free → t ≡ over u t.files
same-table t u a b c d = rw (← a, ← b, ← c, ← d) refl

does : (v v' : View) (u : Table) (c : Call) (a : Answer) → Sized v.disk.size v.disk.shown → Holds v u → v.ready ≡ true → v'.disk.size ≡ v.disk.size →
    ((f : ℕ → File) (h : Holds v (over u f)) → Turned v (over u f) h c a v') → Does v c a v'
does v v' u c a z k r s g = record {
  waits = λ e. false-true (sym e ∙ r);
  turns = λ _ t h. (let q = holds-one v t u z h k in subst (λ (t : Table). (h : Holds v t) → Turned v t h c a v') (sym (same-table t u q.ready q.tree q.slots q.free)) (g t.files) h);
  size = s;
  keeps = λ l k. tt;
}

sized-empty : (second : Contents) → length second ≡ 1024 → Sized sector_count (contents [] second)
sized-empty second l s _ = contents-long [] second root-empty.1 l s

blank-long : length blank ≡ 1024
unfolding blank
blank-long = refl

-- SLOTS: only slot 0 may be used
pub none-later : {A : Type 0} (n k : ℕ) (o : A) → get_or (replicate n None) k None ≡ Some o → ⊥
none-later zero k o e = none-some o e
none-later (suc n) zero o e = none-some o e
none-later (suc n) (suc k) o e = none-later n k o e

pub first-only : {A : Type 0} (x : Option A) (s : ℕ) (o : A) → Some 0 ≢ Some s → get_or (x ∷ replicate 7 None) s None ≡ Some o → ⊥
first-only x zero o n e = n refl
first-only x (suc s) o n e = none-later 7 s o e

slotted : (s n : ℕ) → Slotted s ≡ Slotted n → s ≡ n
slotted s n e = cc

-- the open file that slot 0 holds is closed on the disk
hall-head : (sort : Sort) (g : ℕ → File) → (g 2).bytes ≡ first_bytes → (s : ℕ) (o : Open) → Some 0 ≡ Some s → get_or (hall_open sort 5 first_bytes) s None ≡ Some o →
    Head o (g o.slot.file) (contents hall_entry (hall_sector 5 first_bytes))
hall-head sort g b s o e f =
    let shown = contents hall_entry (hall_sector 5 first_bytes) in
    let x : Open = record { slot = record { file = 2; sort = sort; name = hall; handles = 1 }; long = 5; first = hall_sector 5 first_bytes } in
    let q : x ≡ o = same_Some x o (subst (λ (n : ℕ). get_or (hall_open sort 5 first_bytes) n None ≡ Some o) (sym (same_Some 0 s e)) f) in
    subst (λ (y : Open). Head y (g y.slot.file) shown) q (record {
      extent = in_second 5;
      long = refl;
      header = refl;
      reaches = (hall-laid shown 5 first_bytes refl (omega arith) refl).reaches;
      bytes = sym (b ∙ hall-bytes shown refl);
    })

-- TABLES of the stores, one after another
spare-new : (f : ℕ → File) → Spare (over (formatted sector_count) f) 2
spare-new f = record { closed = λ s x e. absurd (no-slot s x e); unnamed = λ e i. absurd i }

abbrev formatted_table : Table
formatted_table = formatted sector_count

abbrev new_table : Table
new_table = (plain formatted_table 2 (New hall)).1

abbrev written_table : Table
written_table = (plain new_table 0 (Write (at 0 0) first_bytes)).1

abbrev registered_table : Table
registered_table = (plain written_table 0 (Register 0)).1

abbrev closed_table : Table
closed_table = (plain registered_table 0 (Close 0)).1

new-proper : Proper new_table
new-proper = turns formatted_table new_table (New hall) (Slotted 0) (formatted-proper sector_count refl) (said (New hall) 2 (spare-new formatted_table.files))

written-proper : Proper written_table
written-proper = turns new_table written_table (Write (at 0 0) first_bytes) (Wrote 5 (at 0 5)) new-proper (said (Write (at 0 0) first_bytes) 0 refl)

registered-proper : Proper registered_table
registered-proper = turns written_table registered_table (Register 0) Done written-proper (said (Register 0) 0 refl)

closed-proper : Proper closed_table
closed-proper = turns registered_table closed_table (Close 0) Done registered-proper (said (Close 0) 0 refl)

-- the bytes of an open file
open-as : (v : View) (t u : Table) → Sized v.disk.size v.disk.shown → (h : Holds v t) (k : Holds v u) → OpenAs (seen v) t v.slots k.extents
open-as v t u z h k = subst (OpenAs (seen v) t v.slots) (extents-one v t u z h k) h.open'

named-as : (v : View) (t u : Table) → Sized v.disk.size v.disk.shown → (h : Holds v t) (k : Holds v u) → NamedAs v.disk.shown t (entries k.catalog) k.catalog.files
named-as v t u z h k = subst (λ (c : Catalog). NamedAs v.disk.shown t (entries c) c.files) (catalog-one v t u z h k) h.named

z₀ : Sized sector_count (contents [] blank)
z₀ = sized-empty blank blank-long

z₁ : Sized sector_count (contents hall_entry (hall_sector 5 first_bytes))
z₁ s _ = contents-long hall_entry (hall_sector 5 first_bytes) root-hall.1 hall-long s

module _ (calm : Bool) (f : ℕ → File) where
  -- NEW
  new-turns : (h : Holds (formatted_store calm) (over formatted_table f)) → Turned (formatted_store calm) (over formatted_table f) h (New hall) (Slotted 0) (new_store calm)
  unfolding formatted-holds new-holds
  new-turns h =
      let t = over formatted_table f in
      let t' = (plain t 2 (New hall)).1 in
      let u : Turn t (New hall) (Slotted 0) t' = said (New hall) 2 (spare-new f) in
      let k = new-holds calm t'.files refl (turns t t' (New hall) (Slotted 0) h.proper u) in
      quiet (disk_of calm (contents [] blank)) none_open (hall_open Anonymous 0 []) (2 ∷ free_after) free_after t h (New hall) (Slotted 0) t' u refl k refl refl (λ e. cc)
      (λ n s e g. subst (λ (z : ℕ). In (file_at (new_store calm) z) (2 ∷ free_after)) (slotted 0 s g) (inl refl))
      (took-by (formatted_store calm) (new_store calm) t formatted_table t' t' z₀ z₀ h (formatted-holds calm) k took) (λ s i. inr i)
      (directory-by (formatted_store calm) (new_store calm) (t) (formatted_table) (t') (t') z₀ z₀ h (formatted-holds calm) (k)
      (λ c d. (length (outside (page_sectors c) (page_sectors d)) ≡ changes (t) (t').tree) × DirectoryPut c (contents [] blank) (contents [] blank) d) (refl, (inl refl, (tt, tt))))
    where
      took : (s : ℕ) → In s (1 ∷ 2 ∷ []) → In s (2 ∷ free_after) ⊎ In s (1 ∷ [])
      took s (inl e) = inr (inl e)
      took s (inr (inl e)) = inl (inl e)
      took s (inr (inr i)) = absurd i

  -- a New that would leave too few sectors
  refused-turns : (h : Holds (new_store calm) (over new_table f)) → Turned (new_store calm) (over new_table f) h (New []) (No NoRoom) (new_store calm)
  unfolding new-holds
  refused-turns h =
      let t = over new_table f in
      let k₀ = new-holds calm new_table.files refl new-proper in
      quiet (disk_of calm (contents [] blank)) (hall_open Anonymous 0 []) (hall_open Anonymous 0 []) free_after free_after t h (New []) (No NoRoom) t (said (New []) 3 spare) refl h refl refl (λ e. cc)
      (λ n s e g. absurd (no-slotted s g)) (took-by (new_store calm) (new_store calm) t t t t z₀ z₀ h h h (λ s i. inr i)) (λ s i. i)
      (directory-by (new_store calm) (new_store calm) (t) (new_table) (t) (new_table) z₀ z₀ h (k₀) (k₀)
      (λ c d. (length (outside (page_sectors c) (page_sectors d)) ≡ changes (t) (t).tree) × DirectoryPut c (contents [] blank) (contents [] blank) d) (refl, (inl refl, (tt, tt))))
    where
      no-slotted : (s : ℕ) → No NoRoom ≡ Slotted s → ⊥
      no-slotted s e = cc

      spare : Spare (over new_table f) 3
      spare = record { closed = λ s x e. apart s x e; unnamed = λ e i. absurd i }
        where
          apart : (s : ℕ) (x : Slot) → slot_at (over new_table f) s ≡ Some x → x.file ≢ 3
          apart zero x e q = let p = same_Some (record { file = 2; sort = Anonymous; name = hall; handles = 1 }) x e in let r = ap (λ (y : Slot). y.file) p in absurd (omega (arith, r, q))
          apart (suc s) x e q = none-later 7 s x e

  -- WRITE
  write-said : (f 2).bytes ≡ [] → plain (over new_table f) 0 (Write (at 0 0) first_bytes) ≡
      (Wrote 5 (at 0 5), over written_table (λ (m : ℕ). cond (m == 2) (record { bytes = first_bytes; closed = (f 2).closed }) (f m)))
  write-said e = rw e refl

  write-turns : (h : Holds (new_store calm) (over new_table f)) → Turned (new_store calm) (over new_table f) h (Write (at 0 0) first_bytes) (Wrote 5 (at 0 5)) (written_store calm)
  unfolding new-holds written-holds
  write-turns h =
      let t = over new_table f in
      let c = Write (at 0 0) first_bytes in
      let k₀ = new-holds calm new_table.files refl new-proper in
      let t' = over written_table (λ (m : ℕ). cond (m == 2) (record { bytes = first_bytes; closed = (f 2).closed }) (f m)) in
      let b : (f 2).bytes ≡ [] = (open-as (new_store calm) t new_table z₀ h k₀).2 ∙ sym (no-bytes (seen (new_store calm))) in
      let u : Turn t c (Wrote 5 (at 0 5)) t' = subst (λ (r : Answer × Table). Turn t c r.0 r.1) (write-said b) (said c 0 refl) in
      let k = written-holds calm t'.files refl (turns t t' c (Wrote 5 (at 0 5)) h.proper u) in
      quiet (disk_of calm (contents [] blank)) (hall_open Anonymous 0 []) (hall_open Anonymous 5 first_bytes) free_after free_after t h c (Wrote 5 (at 0 5)) t' u refl k refl refl (λ e. cc)
      (λ n s e g. absurd (not-slotted s g)) (took-by (new_store calm) (written_store calm) t new_table t' t' z₀ z₀ h k₀ k (λ s i. inr i)) (λ s i. i)
      (directory-by (new_store calm) (written_store calm) (t) (new_table) (t') (t') z₀ z₀ h (k₀) (k)
      (λ c d. (length (outside (page_sectors c) (page_sectors d)) ≡ changes (t) (t').tree) × DirectoryPut c (contents [] blank) (contents [] blank) d) (refl, (inl refl, (tt, tt))))
    where
      not-slotted : (s : ℕ) → Wrote 5 (at 0 5) ≡ Slotted s → ⊥
      not-slotted s e = cc

  -- REGISTER
  register-turns : (h : Holds (written_store calm) (over written_table f)) → Turned (written_store calm) (over written_table f) h (Register 0) Done (registered_store calm)
  unfolding written-holds registered-holds
  register-turns h =
      let t = over written_table f in
      let t' = (plain t 0 (Register 0)).1 in
      let k₀ = written-holds calm written_table.files refl written-proper in
      let b : (f 2).bytes ≡ first_bytes = (open-as (written_store calm) t written_table z₀ h k₀).2 ∙ sym (hall-bytes (seen (written_store calm)) refl) in
      let u : Turn t (Register 0) Done t' = said (Register 0) 0 refl in
      let k = registered-holds calm t'.files (ap length b) b (turns t t' (Register 0) Done h.proper u) in
      turning sector_count calm (disk_of calm (contents [] blank)) (contents hall_entry (hall_sector 5 first_bytes)) (hall_open Anonymous 5 first_bytes) (hall_open Registered 5 first_bytes) free_after free_after t h refl (λ e. e) (Register 0) t' refl u refl k
      (took-by (written_store calm) (registered_store calm) t written_table t' t' z₀ z₁ h k₀ k (λ s i. inr i))
      (λ s i. inl i) (hall-head Anonymous t'.files b)
      (λ s o n e. absurd (elim e [ inl a ↦ first-only _ s o n a | inr a ↦ first-only _ s o n a ]))
      (λ e i o. absurd (subst (λ (c : Catalog). In e (entries c)) (catalog-one (written_store calm) t written_table z₀ h k₀) i))
      (directory-by (written_store calm) (registered_store calm) t written_table t' t' z₀ z₁ h k₀ k
      (λ c d. (length (outside (page_sectors c) (page_sectors d)) ≡ changes t t'.tree) × DirectoryPut c (contents [] blank) (contents hall_entry (hall_sector 5 first_bytes)) d) (refl, (inr refl, (tt, (tt, tt)))))

  -- CLOSE
  close-turns : (h : Holds (registered_store calm) (over registered_table f)) → Turned (registered_store calm) (over registered_table f) h (Close 0) Done (closed_store calm)
  unfolding registered-holds closed-holds
  close-turns h =
      let t = over registered_table f in
      let t' = (plain t 0 (Close 0)).1 in
      let k₀ = registered-holds calm registered_table.files refl refl registered-proper in
      let b : (f 2).bytes ≡ first_bytes = (open-as (registered_store calm) t registered_table z₁ h k₀).2 ∙ sym (hall-bytes (seen (registered_store calm)) refl) in
      let u : Turn t (Close 0) Done t' = said (Close 0) 0 refl in
      let k = closed-holds calm t'.files (ap length b) b (turns t t' (Close 0) Done h.proper u) in
      let shown = contents hall_entry (hall_sector 5 first_bytes) in
      turning sector_count calm (disk_of calm shown) shown (hall_open Registered 5 first_bytes) none_open free_after free_after t h refl (λ e. e) (Close 0) t' refl u refl k
      (took-by (registered_store calm) (closed_store calm) t registered_table t' t' z₁ z₁ h k₀ k (λ s i. inr i))
      (λ s i. inl i) (hall-head Registered t'.files b)
      (λ s o n e. (refl, λ x i. i)) (λ e i o. (refl, λ x j. j))
      (directory-by (registered_store calm) (closed_store calm) t registered_table t' t' z₁ z₁ h k₀ k
      (λ c d. (length (outside (page_sectors c) (page_sectors d)) ≡ changes t t'.tree) × DirectoryPut c shown shown d) (refl, (inl refl, (tt, (tt, tt)))))

  -- OLD
  old-turns : (h : Holds (closed_store calm) (over closed_table f)) → Turned (closed_store calm) (over closed_table f) h (Old hall) (Slotted 0) (registered_store calm)
  unfolding registered-holds closed-holds
  old-turns h =
      let t = over closed_table f in
      let t' = (plain t 0 (Old hall)).1 in
      let k₀ = closed-holds calm closed_table.files refl refl closed-proper in
      let shown = contents hall_entry (hall_sector 5 first_bytes) in
      let n = named-as (closed_store calm) t closed_table z₁ h k₀ in
      let u : Turn t (Old hall) (Slotted 0) t' = said (Old hall) 0 refl in
      let k = registered-holds calm t'.files n.0 (n.1 refl ∙ sym (hall-bytes shown refl)) (turns t t' (Old hall) (Slotted 0) h.proper u) in
      quiet (disk_of calm shown) none_open (hall_open Registered 5 first_bytes) free_after free_after t h (Old hall) (Slotted 0) t' u refl k refl refl (λ e. cc)
      (λ n s e g. absurd (not-new n e)) (took-by (closed_store calm) (registered_store calm) t closed_table t' t' z₁ z₁ h k₀ k (λ s i. inr i)) (λ s i. i)
      (directory-by (closed_store calm) (registered_store calm) (t) (closed_table) (t') (t') z₁ z₁ h (k₀) (k)
      (λ c d. (length (outside (page_sectors c) (page_sectors d)) ≡ changes (t) (t').tree) × DirectoryPut c (shown) (shown) d) (refl, (inl refl, (tt, (tt, tt)))))
    where
      not-new : (n : Key) → Old hall ≡ New n → ⊥
      not-new n e = cc

  -- DELETE
  delete-turns : (h : Holds (closed_store calm) (over closed_table f)) → Turned (closed_store calm) (over closed_table f) h (Delete hall) Done (deleted_store calm)
  unfolding closed-holds deleted-holds
  delete-turns h =
      let t = over closed_table f in
      let t' = (plain t 0 (Delete hall)).1 in
      let k₀ = closed-holds calm closed_table.files refl refl closed-proper in
      let shown = contents hall_entry (hall_sector 5 first_bytes) in
      let shown' = contents [] (hall_sector 5 first_bytes) in
      let u : Turn t (Delete hall) Done t' = said (Delete hall) 0 refl in
      let k = deleted-holds calm t'.files (turns t t' (Delete hall) Done h.proper u) in
      turning sector_count calm (disk_of calm shown) shown' none_open none_open free_after free_after t h refl (λ e. e) (Delete hall) t' refl u refl k
      (took-by (closed_store calm) (deleted_store calm) t closed_table t' t' z₁ (sized-empty (hall_sector 5 first_bytes) hall-long) h k₀ k (λ s i. inr (first s i)))
      (λ s i. inl i) (λ s o e. absurd (none-some s e))
      (λ s o n e. absurd (elim e [ inl a ↦ none-later 8 s o a | inr a ↦ none-later 8 s o a ]))
      (λ e i o. stays e (subst (λ (c : Catalog). In e (entries c)) (catalog-one (closed_store calm) t closed_table z₁ h k₀) i))
      (directory-by (closed_store calm) (deleted_store calm) t closed_table t' t' z₁ (sized-empty (hall_sector 5 first_bytes) hall-long) h k₀ k
      (λ c d. (length (outside (page_sectors c) (page_sectors d)) ≡ changes t t'.tree) × DirectoryPut c shown shown' d) (refl, (inr refl, (tt, tt))))
    where
      first : (s : ℕ) → In s (1 ∷ []) → In s (1 ∷ 2 ∷ [])
      first s (inl e) = inl e
      first s (inr i) = absurd i

      stays : (e : Entry Key) → In e ((hall, 2) ∷ []) → Unput (closed_store calm) (deleted_store calm) e.1
      stays e (inl q) = subst (λ (d : Entry Key). Unput (closed_store calm) (deleted_store calm) d.1) (sym q) (refl, λ x j. j)
      stays e (inr i) = absurd i

-- SET, READ and LIST change nothing
module _ (calm : Bool) (f : ℕ → File) (h : Holds (registered_store calm) (over registered_table f)) where
  hall-bytes-now : (f 2).bytes ≡ first_bytes
  unfolding registered-holds
  hall-bytes-now =
      (open-as (registered_store calm) (over registered_table f) registered_table z₁ h (registered-holds calm registered_table.files refl refl registered-proper)).2 ∙ sym (hall-bytes (seen (registered_store calm)) refl)

  hall-closed-now : (f 2).closed ≡ 5
  unfolding registered-holds
  hall-closed-now = (named-as (registered_store calm) (over registered_table f) registered_table z₁ h (registered-holds calm registered_table.files refl refl registered-proper)).0

  still-turns : (c : Call) (a : Answer) → plain (over registered_table f) 0 c ≡ (a, over registered_table f) → MayTake (over registered_table f) c 0 → says_three a ≡ false → (a ≡ Done → ⊥) → ((s : ℕ) → a ≡ Slotted s → ⊥) →
      Turned (registered_store calm) (over registered_table f) h c a (registered_store calm)
  unfolding registered-holds
  still-turns c a e m n d w =
      let t = over registered_table f in
      let v = registered_store calm in
      let k₀ = registered-holds calm registered_table.files refl refl registered-proper in
      quiet v.disk v.slots v.slots v.free v.free t h c a t (subst (λ (r : Answer × Table). Turn t c r.0 r.1) e (said c 0 m)) refl h refl n d
      (λ k s x g. absurd (w s g)) (took-by v v t t t t z₁ z₁ h h h (λ s i. inr i)) (λ s i. i)
      (directory-by (v) (v) (t) (registered_table) (t) (registered_table) z₁ z₁ h (k₀) (k₀)
      (λ c d. (length (outside (page_sectors c) (page_sectors d)) ≡ changes (t) (t).tree) × DirectoryPut c (v.disk.shown) (v.disk.shown) d) (refl, (inl refl, (tt, (tt, tt)))))

  set-turns : Turned (registered_store calm) (over registered_table f) h (Set 0 9) (Riding (at 0 5)) (registered_store calm)
  set-turns = still-turns (Set 0 9) (Riding (at 0 5)) (rw hall-bytes-now refl) refl refl (λ e. cc) (λ s e. cc)

  read-turns : Turned (registered_store calm) (over registered_table f) h (Read (at 0 2) (replicate 10 0)) (HasRead 3 (at_end 0 5) (codes "rst" ++ replicate 7 0)) (registered_store calm)
  read-turns = still-turns (Read (at 0 2) (replicate 10 0)) (HasRead 3 (at_end 0 5) (codes "rst" ++ replicate 7 0)) (rw hall-bytes-now refl) refl refl (λ e. cc) (λ s e. cc)

  list-turns : Turned (registered_store calm) (over registered_table f) h (Names (no_row ∷ [])) (Named 1 (row 2 5 ∷ [])) (registered_store calm)
  list-turns = still-turns (Names (no_row ∷ [])) (Named 1 (row 2 5 ∷ [])) (rw hall-closed-now refl) refl refl (λ e. cc) (λ s e. cc)

-- a call that puts nothing, and is not answered
module _ (f : ℕ → File) (h : Holds (registered_store false) (over registered_table f)) where
  gone-turns : (c : Call) (a : Answer) → Turn (over registered_table f) c a (waits (over registered_table f)) → says_three a ≡ true → ((r : FileFault) → a ≡ No r → ⊥) → (a ≡ Done → ⊥) → ((s : ℕ) → a ≡ Slotted s → ⊥) →
      Turned (registered_store false) (over registered_table f) h c a (waiting (off (registered_store false).disk))
  gone-turns c a u n r d w = record {
    table = waits (over registered_table f);
    turn = u;
    ready = refl;
    holds = λ e. false-true e;
    new = λ k s e g. absurd (w s g);
    took = λ k s i. false-true k.live;
    freed = λ k s i. false-true k.live;
    answered = record { lost = (λ _. refl, λ _. n); accepts = λ e _. false-true e; calm = λ e. e; size = refl };
    unput = λ q e b. absurd (r q e);
    settled = λ e. absurd (d e);
    head = λ s o e g q. absurd (d q);
    still = λ e. (λ k i. refl, λ k x i j. j);
    others = λ s o e i. (refl, λ x j. j);
    unopened = λ e i o. (refl, λ x j. j);
    moved = λ k. false-true k.live;
    pages = λ k. false-true k.live;
  }

  read-lost : Turned (registered_store false) (over registered_table f) h (Read (at 0 2) (replicate 10 0)) (NoRead lost 1 (at 0 3) (codes "r" ++ replicate 9 0)) (waiting (off (registered_store false).disk))
  read-lost =
      let b = hall-bytes-now false f h in
      let t = over registered_table f in
      let c = Read (at 0 2) (replicate 10 0) in
      let k : 1 ≤ gives t (at 0 2) (replicate 10 0) = rw b (omega arith) in
      let e : NoRead lost 1 (moved t (at 0 2) 1 false) (filled t (at 0 2) 1 (replicate 10 0)) ≡ NoRead lost 1 (at 0 3) (codes "r" ++ replicate 9 0) = rw b refl in
      gone-turns c (NoRead lost 1 (at 0 3) (codes "r" ++ replicate 9 0)) (subst (λ (a : Answer). Turn t c a (waits t)) e (gone_read (at 0 2) (replicate 10 0) lost 1 refl refl k)) refl (λ r e. cc) (λ e. cc) (λ s e. cc)

  list-lost : Turned (registered_store false) (over registered_table f) h (Names (no_row ∷ [])) (NoNames lost 0 (no_row ∷ [])) (waiting (off (registered_store false).disk))
  list-lost = gone-turns (Names (no_row ∷ [])) (NoNames lost 0 (no_row ∷ [])) (gone_names (no_row ∷ []) lost 0 refl refl (omega arith)) refl (λ r e. cc) (λ e. cc) (λ s e. cc)

-- A REGISTER whose Settle is gone
register-lost : (f : ℕ → File) (h : Holds (written_store false) (over written_table f)) → Turned (written_store false) (over written_table f) h (Register 0) (No (by_disk lost)) lost_store
unfolding written-holds
register-lost f h = record {
  table = waits (over written_table f);
  turn = gone (Register 0) lost refl refl refl;
  ready = refl;
  holds = λ e. false-true e;
  new = λ n s e g. absurd (no-slotted s g);
  took = λ k s i. false-true k.live;
  freed = λ k s i. false-true k.live;
  answered = record { lost = (λ _. refl, λ _. refl); accepts = λ e _. false-true e; calm = λ e. e; size = refl };
  unput = λ r e b. absurd (three r e b);
  settled = λ e. absurd (no-done e);
  head = λ s o e g d. absurd (no-done d);
  still = λ e. false-true (sym e);
  others = λ s o n e. absurd (elim e [ inl a ↦ first-only _ s o n a | inr a ↦ first-only _ s o n a ]);
  unopened = λ e i o.
      absurd (subst (λ (c : Catalog). In e (entries c)) (catalog-one (written_store false) (over written_table f) written_table z₀ h (written-holds false written_table.files refl written-proper)) i);
  moved = λ k. false-true k.live;
  pages = λ k. false-true k.live;
}
  where
    no-slotted : (s : ℕ) → No (by_disk lost) ≡ Slotted s → ⊥
    no-slotted s e = cc

    no-done : No (by_disk lost) ≡ Done → ⊥
    no-done e = cc

    three : (r : FileFault) → No (by_disk lost) ≡ No r → is_three r ≡ false → ⊥
    three r e b = let q : by_disk lost ≡ r = cc in false-true (sym b ∙ ap is_three (sym q))

pub refused : Refused
refused = record {
  register = does (written_store false) lost_store written_table (Register 0) (No (by_disk lost)) z₀ (written-holds false written_table.files refl written-proper) refl refl register-lost;
  read = does (registered_store false) (waiting (off (registered_store false).disk)) registered_table (Read (at 0 2) (replicate 10 0)) (NoRead lost 1 (at 0 3) (codes "r" ++ replicate 9 0)) z₁ (registered-holds false registered_table.files refl refl registered-proper) refl refl read-lost;
  list = does (registered_store false) (waiting (off (registered_store false).disk)) registered_table (Names (no_row ∷ [])) (NoNames lost 0 (no_row ∷ [])) z₁ (registered-holds false registered_table.files refl refl registered-proper) refl refl list-lost;
  after = record { waits = λ _. (refl, refl); turns = λ e. false-true e; size = refl; keeps = λ l k. tt };
  start = start-forgets;
  start_lost = start-lost;
  format = format-lost;
  start_small = start-small;
  format_small = format-small;
}

pub witnesses : (calm : Bool) → Witnesses calm
witnesses calm = record {
  format = format-done calm;
  start = start-done calm;
  holds = formatted-holds calm;
  new = does (formatted_store calm) (new_store calm) formatted_table (New hall) (Slotted 0) z₀ (formatted-holds calm) refl refl (new-turns calm);
  write = does (new_store calm) (written_store calm) new_table (Write (at 0 0) first_bytes) (Wrote 5 (at 0 5)) z₀ (new-holds calm new_table.files refl new-proper) refl refl (write-turns calm);
  register = does (written_store calm) (registered_store calm) written_table (Register 0) Done z₀ (written-holds calm written_table.files refl written-proper) refl refl (register-turns calm);
  close = does (registered_store calm) (closed_store calm) registered_table (Close 0) Done z₁ (registered-holds calm registered_table.files refl refl registered-proper) refl refl (close-turns calm);
  old = does (closed_store calm) (registered_store calm) closed_table (Old hall) (Slotted 0) z₁ (closed-holds calm closed_table.files refl refl closed-proper) refl refl (old-turns calm);
  delete = does (closed_store calm) (deleted_store calm) closed_table (Delete hall) Done z₁ (closed-holds calm closed_table.files refl refl closed-proper) refl refl (delete-turns calm);
  refused = does (new_store calm) (new_store calm) new_table (New []) (No NoRoom) z₀ (new-holds calm new_table.files refl new-proper) refl refl (refused-turns calm);
  set = does (registered_store calm) (registered_store calm) registered_table (Set 0 9) (Riding (at 0 5)) z₁ (registered-holds calm registered_table.files refl refl registered-proper) refl refl (set-turns calm);
  read = does (registered_store calm) (registered_store calm) registered_table (Read (at 0 2) (replicate 10 0)) (HasRead 3 (at_end 0 5) (codes "rst" ++ replicate 7 0)) z₁ (registered-holds calm registered_table.files refl refl registered-proper) refl refl (read-turns calm);
  list = does (registered_store calm) (registered_store calm) registered_table (Names (no_row ∷ [])) (Named 1 (row 2 5 ∷ [])) z₁ (registered-holds calm registered_table.files refl refl registered-proper) refl refl (list-turns calm);
}

-- How a call on a settled disk is shown to be as it is promised.
use Rattle.std.proofs.Common.{◌≡◌, ℕ, Bool, true, false, ◌⊎◌, List, length, get_or, Some, None, Option, sym, refl, ◌∙◌, subst, ap₂, inl}
use Rattle.std.specs.Prelude.{◌≢◌}
use Rattle.numbers.specs.Names.{Key}
use Rattle.tree.specs.Tree.{Entry}
use Rattle.disk.specs.Meaning.{Contents, Meaning, In}
use Rattle.catalog.specs.Catalogs.{Catalog, entries, page_sectors, outside}
use Rattle.catalog.specs.Laws.{Sized}
use Rattle.promise.specs.declared.fault.FileFault.{FileFault}
use Rattle.promise.specs.Table.{Table, Call, New, Answer, Done, Slotted, No, changes, Turn, holder, slot_count}
use Rattle.promise.specs.Promise.{Open, View}
use Rattle.promise.specs.Calls.{uses, says_three, closes, puts, file_at, Unput, Head, DirectoryPut, Holds, Turned}
use Rattle.promise.specs.Witnesses.{settled_disk, store}
use Rattle.disk.proofs.Images.{only}
use Rattle.promise.proofs.Holding.{catalog-one, extents-one}

pub false-true : {A : Type 0} → false ≡ true → A
false-true e = cc

-- the sectors in use, and what relates the directories before and after, of one table that each store holds
module _ (v v' : View) (t u t' u' : Table) (z : Sized v.disk.size v.disk.shown) (z' : Sized v'.disk.size v'.disk.shown) (h : Holds v t) (k : Holds v u) (k' : Holds v' u') where
  pub took-by : ((s : ℕ) → In s (uses t' k'.catalog k'.extents) → In s v.free ⊎ In s (uses t k.catalog k.extents)) →
      (h' : Holds v' t') (s : ℕ) → In s (uses t' h'.catalog h'.extents) → In s v.free ⊎ In s (uses t h.catalog h.extents)
  took-by g h' s i =
      let e = ap₂ (uses t) (catalog-one v t u z h k) (extents-one v t u z h k) in
      let e' = ap₂ (uses t') (catalog-one v' t' u' z' h' k') (extents-one v' t' u' z' h' k') in
      subst (λ (l : List ℕ). In s v.free ⊎ In s l) (sym e) (g s (subst (In s) e' i))

  pub freed-by : ((s : ℕ) → In s v'.free → In s v.free ⊎ In s (page_sectors k.catalog)) → (s : ℕ) → In s v'.free → In s v.free ⊎ In s (page_sectors h.catalog)
  freed-by g s i = subst (λ (c : Catalog). In s v.free ⊎ In s (page_sectors c)) (sym (catalog-one v t u z h k)) (g s i)

  pub directory-by : (P : Catalog → Catalog → Type 0) → P k.catalog k'.catalog → (h' : Holds v' t') → P h.catalog h'.catalog
  directory-by P p h' = subst (λ (c : Catalog). P c h'.catalog) (sym (catalog-one v t u z h k)) (subst (P k.catalog) (sym (catalog-one v' t' u' z' h' k')) p)

-- CALLS that put nothing, on a store with this disk
module _ (m : Meaning) (slots slots' : List (Option Open)) (free free' : List ℕ) (t : Table) (h : Holds (store slots free m) t) where
  pub quiet : (c : Call) (a : Answer) (t' : Table) → Turn t c a t' → t'.ready ≡ true → Holds (store slots' free' m) t' → m.live ≡ true → says_three a ≡ false → (a ≡ Done → ⊥) →
      ((n : Key) (s : ℕ) → c ≡ New n → a ≡ Slotted s → In (file_at (store slots' free' m) s) free) →
      ((k : Holds (store slots' free' m) t') (s : ℕ) → In s (uses t' k.catalog k.extents) → In s free ⊎ In s (uses t h.catalog h.extents)) →
      ((s : ℕ) → In s free' → In s free) →
      ((k : Holds (store slots' free' m) t') → (length (outside (page_sectors h.catalog) (page_sectors k.catalog)) ≡ changes t t'.tree) × DirectoryPut h.catalog m.shown m.shown k.catalog) →
      Turned (store slots free m) t h c a (store slots' free' m)
  quiet c a t' u r k l n d new took freed directory = record {
    table = t';
    turn = u;
    ready = sym r;
    holds = λ _. k;
    new = new;
    took = took;
    freed = λ _ s i. inl (freed s i);
    answered = record { lost = (λ e. (false-true (sym n ∙ e)), λ e. (false-true (sym e ∙ l))); accepts = λ _ _. n; calm = λ e. e; size = refl };
    unput = λ f e b. (λ k x. refl, λ k x y i. i);
    settled = λ e. absurd (d e);
    head = λ s o e f g. absurd (d g);
    still = λ e. (λ k x. refl, λ k x y i. i);
    others = λ s o e f. (refl, λ x i. i);
    unopened = λ e i o. (refl, λ x j. j);
    moved = λ k. (directory k).0;
    pages = λ k. (directory k).1;
  }

-- CALLS that put and settle
module _ (size : ℕ) (calm : Bool) (m : Meaning) (shown' : ℕ → Contents) (slots slots' : List (Option Open)) (free free' : List ℕ) (t : Table) (h : Holds (store slots free m) t) (same : size ≡ m.size)
    (goes_on : m.calm ≡ true → calm ≡ true) where
  pub turning : (c : Call) (t' : Table) → puts c ≡ true → Turn t c Done t' → t'.ready ≡ true → Holds (store slots' free' (settled_disk size calm shown')) t' →
      ((k : Holds (store slots' free' (settled_disk size calm shown')) t') (s : ℕ) → In s (uses t' k.catalog k.extents) → In s free ⊎ In s (uses t h.catalog h.extents)) →
      ((s : ℕ) → In s free' → In s free ⊎ In s (page_sectors h.catalog)) →
      ((s : ℕ) (o : Open) → closes c ≡ Some s → get_or slots s None ≡ Some o → Head o (t'.files o.slot.file) shown') →
      ((s : ℕ) (o : Open) → closes c ≢ Some s → (get_or slots s None ≡ Some o) ⊎ (get_or slots' s None ≡ Some o) → Unput (store slots free m) (store slots' free' (settled_disk size calm shown')) o.slot.file) →
      ((e : Entry Key) → In e (entries h.catalog) → holder e.1 t.slots ≡ slot_count → Unput (store slots free m) (store slots' free' (settled_disk size calm shown')) e.1) →
      ((k : Holds (store slots' free' (settled_disk size calm shown')) t') → (length (outside (page_sectors h.catalog) (page_sectors k.catalog)) ≡ changes t t'.tree) × DirectoryPut h.catalog m.shown shown' k.catalog) →
      Turned (store slots free m) t h c Done (store slots' free' (settled_disk size calm shown'))
  turning c t' p u r k took freed head others unopened directory = record {
    table = t';
    turn = u;
    ready = sym r;
    holds = λ _. k;
    new = λ n s e f. absurd (not-slotted s f);
    took = took;
    freed = λ _ s i. freed s i;
    answered = record { lost = (λ e. (false-true e), λ e. (false-true (sym e))); accepts = λ _ _. refl; calm = goes_on; size = same };
    unput = λ f e b. absurd (not-no f e);
    settled = λ _ k x l i. only i;
    head = λ s o e f _. head s o e f;
    still = λ e. false-true (sym e ∙ p);
    others = others;
    unopened = unopened;
    moved = λ k. (directory k).0;
    pages = λ k. (directory k).1;
  }
    where
      not-slotted : (s : ℕ) → Done ≡ Slotted s → ⊥
      not-slotted s e = cc

      not-no : (f : FileFault) → Done ≡ No f → ⊥
      not-no f e = cc

-- A table and the ledger beside it stay together when a file, a slot or the names of both change.
use Rattle.std.proofs.Common.{◌≡◌, ℕ, ◌-◌, ◌<◌, Bool, true, false, cond, List, [], ◌∷◌, map, length, get_or, set, Some, None, Option, sym, refl, ap, ◌∙◌, subst, inl, inr}
use Rattle.std.specs.Prelude.{◌==◌, nat_le}
use Rattle.std.proofs.lemmas.List.{map-set, get_or-set_same, get_or-set_other}
use Rattle.std.proofs.lemmas.Bool.{cases_eq, eq-eqb, ne_eqb}
use Rattle.numbers.specs.Names.{Key}
use Rattle.numbers.specs.Order.{Cmp, below, same, above, cmp}
use Rattle.tree.specs.Tree.{Entry, Tree, pick, to_list}
use Rattle.tree.specs.Laws.{put, without}
use Rattle.promise.specs.Table.{File, Slot, Table, Call, waits, with_file, with_slot, with_free, with_tree, one_less}
use Rattle.promise.specs.Ledger.{Written, no_file, Ledger, numbered}
use Rattle.promise.specs.Ledger.{with_names as names_in, with_slot as slot_in, with_file as file_in, Sane}
use Rattle.promise.specs.Together.{Together, Live, entry_to, slot_to}
use Rattle.promise.proofs.Slots.{slot-set}
use Rattle.promise.proofs.Ledgers.{file_at}
use Rattle.promise.proofs.Beside.{to}

-- together by these first sectors, but for what is broken off
pub record Linked (sector : ℕ → ℕ) (t : Table) (l : Ledger) : Type 0 where
  pub apart : (n m : ℕ) → Live l n → Live l m → sector n ≡ sector m → n ≡ m
  pub names : to_list t.tree ≡ map (entry_to sector) l.names
  pub slots : t.slots ≡ map (slot_to sector) l.slots
  pub bytes : (n : ℕ) → Live l n → (t.files (sector n)).bytes ≡ (numbered l n).bytes
  pub closed : (n : ℕ) → Live l n → (t.files (sector n)).closed ≡ (numbered l n).closed

pub linked : (t : Table) (l : Ledger) (g : Together t l) → Linked g.sector t l
linked t l g = record { apart = g.apart; names = g.names; slots = g.slots; bytes = g.bytes; closed = g.closed }

pub together : (sector : ℕ → ℕ) (t : Table) (l : Ledger) → Linked sector t l → (t.ready ≡ true → (l.broken ≡ None) × (l.wiped ≡ false)) → Together t l
together sector t l g u = record { sector = sector; apart = g.apart; names = g.names; slots = g.slots; bytes = g.bytes; closed = g.closed; unbroken = u }

-- the ledger knows all live files
pub live-known : (l : Ledger) (n : ℕ) → Sane l → Live l n → n < length l.files
live-known l n v (inl q) = subst (λ (m : ℕ). m < length l.files) q.2 (v.known q.0 q.1)
live-known l n v (inr q) = subst (λ (m : ℕ). m < length l.files) q.3 (v.held q.0 q.1 q.2)

pub one_less-to : (g : ℕ → ℕ) (y : Slot) → slot_to g (one_less y) ≡ one_less (to g y)
one_less-to g y = go (nat_le y.handles 1)
  where
    go : (b : Bool) → slot_to g (cond b None (Some (record { file = y.file; sort = y.sort; name = y.name; handles = y.handles - 1 }))) ≡ cond b None (Some (record { file = g y.file; sort = y.sort; name = y.name; handles = y.handles - 1 }))
    go true = refl
    go false = refl

pub without-to : (g : ℕ → ℕ) (k : Key) (es : List (Entry Key)) → without cmp k (map (entry_to g) es) ≡ map (entry_to g) (without cmp k es)
without-to g k [] = refl
without-to g k (e ∷ es) = go (cmp k e.0) (without-to g k es)
  where
    go : (o : Cmp) → without cmp k (map (entry_to g) es) ≡ map (entry_to g) (without cmp k es) →
        pick o (entry_to g e ∷ map (entry_to g) es) (map (entry_to g) es) (entry_to g e ∷ without cmp k (map (entry_to g) es)) ≡ map (entry_to g) (pick o (e ∷ es) es (e ∷ without cmp k es))
    go below h = refl
    go same h = refl
    go above h = ap (λ (l : List (Entry Key)). entry_to g e ∷ l) h

pub put-to : (g : ℕ → ℕ) (x : Entry Key) (es : List (Entry Key)) → put cmp (entry_to g x) (map (entry_to g) es) ≡ map (entry_to g) (put cmp x es)
put-to g x [] = refl
put-to g x (e ∷ es) = go (cmp x.0 e.0) (put-to g x es)
  where
    go : (o : Cmp) → put cmp (entry_to g x) (map (entry_to g) es) ≡ map (entry_to g) (put cmp x es) →
        pick o (entry_to g x ∷ entry_to g e ∷ map (entry_to g) es) (entry_to g x ∷ map (entry_to g) es) (entry_to g e ∷ put cmp (entry_to g x) (map (entry_to g) es)) ≡ map (entry_to g) (pick o (x ∷ e ∷ es) (x ∷ es) (e ∷ put cmp x es))
    go below h = refl
    go same h = refl
    go above h = ap (λ (l : List (Entry Key)). entry_to g e ∷ l) h

-- what is live after a slot was set was live, if the file put there was
pub slot-live : (l : Ledger) (h : ℕ) (o : Option Slot) → ((x : Slot) → o ≡ Some x → Live l x.file) → (n : ℕ) → Live (slot_in h o l) n → Live l n
slot-live l h o f n (inl q) = inl q
slot-live l h o f n (inr q) = elim (slot-set l.slots h q.0 o q.1 q.2) [ inl p ↦ subst (Live l) q.3 (f q.1 p.1) | inr p ↦ inr (q.0, q.1, p.1, q.3) ]

module _ (sector : ℕ → ℕ) (t : Table) (l : Ledger) (g : Linked sector t l) where
  pub slot-linked : (h : ℕ) (o : Option Slot) → ((x : Slot) → o ≡ Some x → Live l x.file) → Linked sector (with_slot h (slot_to sector o) t) (slot_in h o l)
  slot-linked h o f = record {
    apart = λ n m a b. g.apart n m (slot-live l h o f n a) (slot-live l h o f m b);
    names = g.names;
    slots = ap (λ (os : List (Option Slot)). set os h (slot_to sector o)) g.slots ∙ sym (map-set (slot_to sector) l.slots h o);
    bytes = λ n a. g.bytes n (slot-live l h o f n a);
    closed = λ n a. g.closed n (slot-live l h o f n a);
  }

  pub names-linked : (u : Tree Key) (ns : List (Entry Key)) → to_list u ≡ map (entry_to sector) ns → ((n : ℕ) → Live (names_in ns l) n → Live l n) → Linked sector (with_tree u t) (names_in ns l)
  names-linked u ns e f = record { apart = λ n m a b. g.apart n m (f n a) (f m b); names = e; slots = g.slots; bytes = λ n a. g.bytes n (f n a); closed = λ n a. g.closed n (f n a) }

  pub free-linked : (n : ℕ) → Linked sector (with_free n t) l
  free-linked n = record { apart = g.apart; names = g.names; slots = g.slots; bytes = g.bytes; closed = g.closed }

  -- a file of both
  module _ (n : ℕ) (live : Live l n) (known : n < length l.files) (x : File) (w : Written) where
    -- what one tells of each live file
    each : {A : Type 0} (p : File → A) (q : Written → A) → p x ≡ q w → ((m : ℕ) → Live l m → p (t.files (sector m)) ≡ q (numbered l m)) →
        (m : ℕ) → Live l m → p (cond (sector m == sector n) x (t.files (sector m))) ≡ q (get_or (set l.files n w) m no_file)
    each p q e f m a = elim (cases_eq m n) [
      | inl i ↦
          ap (λ (b : Bool). p (cond b x (t.files (sector m)))) (eq-eqb (sector m) (sector n) (ap sector i)) ∙ (e ∙ sym (ap q (ap (λ (k : ℕ). get_or (set l.files n w) k no_file) i ∙ get_or-set_same l.files n w no_file known)))
      | inr i ↦
          ap (λ (b : Bool). p (cond b x (t.files (sector m)))) (ne_eqb (sector m) (sector n) (λ s. i (g.apart m n a live s))) ∙ (f m a ∙ sym (ap q (get_or-set_other l.files n m w no_file i)))
    ]

    pub file-linked : x.bytes ≡ w.bytes → x.closed ≡ w.closed → Linked sector (with_file (sector n) x t) (file_in n w l)
    file-linked e f = record {
      apart = g.apart;
      names = g.names;
      slots = g.slots;
      bytes = each (λ (y : File). y.bytes) (λ (y : Written). y.bytes) e g.bytes;
      closed = each (λ (y : File). y.closed) (λ (y : Written). y.closed) f g.closed;
    }

  -- a file of the ledger alone, with other possible bytes
  pub carried-linked : (n : ℕ) (w : Written) → w.bytes ≡ (numbered l n).bytes → w.closed ≡ (numbered l n).closed → Linked sector t (file_in n w l)
  carried-linked n w e f = record {
    apart = g.apart;
    names = g.names;
    slots = g.slots;
    bytes = λ m a. g.bytes m a ∙ elim (file_at l.files n m w) [ inl q ↦ sym (ap (λ (y : Written). y.bytes) q.1 ∙ (e ∙ ap (λ (k : ℕ). (numbered l k).bytes) (sym q.0))) | inr q ↦ sym (ap (λ (y : Written). y.bytes) q) ];
    closed = λ m a. g.closed m a ∙ elim (file_at l.files n m w) [ inl q ↦ sym (ap (λ (y : Written). y.closed) q.1 ∙ (f ∙ ap (λ (k : ℕ). (numbered l k).closed) (sym q.0))) | inr q ↦ sym (ap (λ (y : Written). y.closed) q) ];
  }

-- the store waits, and something may be broken off
pub waiting : {sector : ℕ → ℕ} (t : Table) (l : Ledger) {o : Option Call} {w : Bool} → Linked sector t l → Linked sector (waits t) (record { names = l.names; files = l.files; slots = l.slots; broken = o; wiped = w })
waiting t l g = record { apart = g.apart; names = g.names; slots = g.slots; bytes = g.bytes; closed = g.closed }

-- A store holds one table, as far as anything of it can be seen.
use Rattle.std.proofs.Common.{◌≡◌, ℕ, zero, suc, ◌+◌, ◌-◌, ◌*◌, ◌/◌, ◌%◌, ◌<◌, ◌≤◌, ◌⊎◌, Bool, true, false, cond, List, [], ◌∷◌, map, length, get_or, Some, None, Option, sym, refl, ap, ◌∙◌, subst, ap₂, inl, inr, arith}
use Rattle.std.specs.Prelude.{◌==◌}
use Rattle.std.proofs.lemmas.Bool.{cases_eq, cases_lt}
use Rattle.std.proofs.lemmas.Option.{none-some}
use Rattle.std.proofs.lemmas.Grind.{same_number_lists}
use Rattle.numbers.specs.Names.{Key}
use Rattle.numbers.specs.Lengths.{near_sectors, most_tables, table_sectors, longest, last_sector, tables}
use Rattle.numbers.specs.Sectors.{address}
use Rattle.numbers.proofs.Sizes.{most}
use Rattle.layout.specs.Words.{word_size, word}
use Rattle.tree.specs.Tree.{Entry, to_list}
use Rattle.disk.specs.Meaning.{Contents, In}
use Rattle.catalog.specs.Catalogs.{Extent, Catalog, plain_tree, entries}
use Rattle.catalog.specs.Laws.{Sized}
use Rattle.catalog.specs.Lays.{Reaches}
use Rattle.catalog.proofs.Found.{unique}
use Rattle.promise.specs.Table.{Slot, Table, slot_at, slot_count, holder}
use Rattle.promise.specs.Promise.{Open, View}
use Rattle.promise.specs.Calls.{seen, slot_in, NamedAs, OpenAs, Holds}
use Rattle.promise.specs.Laws.{HoldsOne}
use Rattle.promise.proofs.Slots.{holder-holds}
use Rattle.promise.proofs.StartProper.{bytes-long}

-- ONE FILE of that length is reached from a first sector
same-address : (w a b : ℕ) → w ≡ address a → w ≡ address b → a ≡ b
same-address w a b e f = omega arith

extent-eq : (x y : Extent) → x.long ≡ y.long → x.parts ≡ y.parts → x.tabs ≡ y.tabs → x ≡ y
extent-eq x y e f g = rw (e, f, g) refl

module _ (shown : ℕ → Contents) (s : ℕ) (x y : Extent) (fits : x.long ≤ longest) (same : x.long ≡ y.long) (r : Reaches shown s x) (q : Reaches shown s y) where
  tabs-same : (k : ℕ) → k < most_tables → get_or x.tabs k 0 ≡ get_or y.tabs k 0
  tabs-same k l = same-address (word (shown s) _) (get_or x.tabs k 0) (get_or y.tabs k 0) (r.extensions k l) (q.extensions k l)

  parts-same : (i : ℕ) → i < length x.parts → (i < near_sectors) ⊎ (near_sectors ≤ i) → get_or x.parts i 0 ≡ get_or y.parts i 0
  parts-same i l (inl n) = same-address (word (shown s) _) (get_or x.parts i 0) (get_or y.parts i 0) (r.near i n) (q.near i n)
  parts-same i l (inr n) =
      let k = (i - near_sectors) / table_sectors in
      let j = (i - near_sectors) % table_sectors in
      let e : near_sectors + table_sectors * ((i - near_sectors) / table_sectors) + (i - near_sectors) % table_sectors ≡ i = omega arith in
      let m = (most x.long fits).0 in
      let lx = r.parts in
      let ly = q.parts ∙ ap (λ (z : ℕ). 1 + last_sector z) (sym same) in
      let t = tabs-same k (omega arith) in
      let a = r.far k j (omega arith) (omega arith) in
      let b = q.far k j (omega arith) (omega arith) in
      same-address (word (shown (get_or x.tabs k 0)) (word_size * j)) (get_or x.parts i 0) (get_or y.parts i 0) (a ∙ ap (λ (z : ℕ). address (get_or x.parts z 0)) e)
      (ap (λ (z : ℕ). word (shown z) (word_size * j)) t ∙ (b ∙ ap (λ (z : ℕ). address (get_or y.parts z 0)) e))

  one-file : x ≡ y
  one-file =
      let u = (most x.long fits).1 in
      let a = r.tabs in
      extent-eq x y same
      (same_number_lists x.parts y.parts (r.parts ∙ (ap (λ (z : ℕ). 1 + last_sector z) same ∙ sym q.parts)) (λ i l. parts-same i l (cases_lt i near_sectors)))
      (same_number_lists x.tabs y.tabs (r.tabs ∙ (ap (λ (z : ℕ). tables (last_sector z)) same ∙ sym q.tabs)) (λ k l. tabs-same k (omega arith)))

-- FILES of slots and of names
module _ (shown : ℕ → Contents) (t t' : Table) where
  open-one : ((n : ℕ) → length (t.files n).bytes ≤ longest) → (os : List (Option Open)) (xs ys : List Extent) → OpenAs shown t os xs → OpenAs shown t' os ys → xs ≡ ys
  open-one f [] [] [] h k = refl
  open-one f [] [] (y ∷ ys) h k = absurd k
  open-one f [] (x ∷ xs) ys h k = absurd h
  open-one f (None ∷ os) xs ys h k = open-one f os xs ys h k
  open-one f (Some o ∷ os) [] ys h k = absurd h
  open-one f (Some o ∷ os) (x ∷ xs) [] h k = absurd k
  open-one f (Some o ∷ os) (x ∷ xs) (y ∷ ys) h k =
      let n = o.slot.file in
      let l : x.long ≤ longest = subst (λ (m : ℕ). m ≤ longest) (ap length h.2 ∙ bytes-long shown x) (f n) in
      ap₂ ◌∷◌ (one-file shown n x y l (h.1 ∙ sym k.1) h.0 k.0) (open-one f os xs ys h.3 k.3)

  open-same : (os : List (Option Open)) (xs : List Extent) → OpenAs shown t os xs → OpenAs shown t' os xs →
      (s : ℕ) (x : Slot) → get_or (map slot_in os) s None ≡ Some x → (t.files x.file).bytes ≡ (t'.files x.file).bytes
  open-same [] xs h k s x e = absurd (none-some x e)
  open-same (None ∷ os) xs h k zero x e = absurd (none-some x e)
  open-same (None ∷ os) xs h k (suc s) x e = open-same os xs h k s x e
  open-same (Some o ∷ os) [] h k s x e = absurd h
  open-same (Some o ∷ os) (y ∷ xs) h k (suc s) x e = open-same os xs h.3 k.3 s x e
  open-same (Some o ∷ os) (y ∷ xs) h k zero x e =
      let f : o.slot ≡ x = cc in
      subst (λ (i : Slot). (t.files i.file).bytes ≡ (t'.files i.file).bytes) f (h.2 ∙ sym k.2)

  named-same : t.slots ≡ t'.slots → ((n : ℕ) → (holder n t.slots ≡ slot_count → ⊥) → (t.files n).bytes ≡ (t'.files n).bytes) →
      (es : List (Entry Key)) (xs : List Extent) → NamedAs shown t es xs → NamedAs shown t' es xs →
      (e : Entry Key) → In e es → ((t.files e.1).bytes ≡ (t'.files e.1).bytes) × ((t.files e.1).closed ≡ (t'.files e.1).closed)
  named-same u f [] xs h k e i = absurd i
  named-same u f (d ∷ es) [] h k e i = absurd h
  named-same u f (d ∷ es) (x ∷ xs) h k e (inr i) = named-same u f es xs h.2 k.2 e i
  named-same u f (d ∷ es) (x ∷ xs) h k e (inl i) =
      let n = d.1 in
      let b : (t.files n).bytes ≡ (t'.files n).bytes = elim (cases_eq (holder n t.slots) slot_count) [
        | inl z ↦ h.1 z ∙ sym (k.1 (ap (holder n) (sym u) ∙ z))
        | inr z ↦ f n z
      ] in
      subst (λ (m : ℕ). ((t.files m).bytes ≡ (t'.files m).bytes) × ((t.files m).closed ≡ (t'.files m).closed)) (ap (λ (y : Entry Key). y.1) (sym i)) (b, h.0 ∙ sym k.0)

holder-most : (n : ℕ) (os : List (Option Slot)) → holder n os ≤ length os
holder-most n [] = omega arith
holder-most n (None ∷ os) = let r = holder-most n os in omega (arith, r)
holder-most n (Some x ∷ os) = go (x.file == n) (holder-most n os)
  where
    go : (b : Bool) → holder n os ≤ length os → cond b 0 (suc (holder n os)) ≤ suc (length os)
    go true r = omega arith
    go false r = omega (arith, r)

-- its catalog and the extents of its open files
module _ (v : View) (t t' : Table) (sized : Sized v.disk.size v.disk.shown) (h : Holds v t) (k : Holds v t') where
  pub catalog-one : h.catalog ≡ k.catalog
  catalog-one = unique v.disk.size v.disk.shown h.catalog k.catalog sized h.size h.lays k.lays

  pub extents-one : h.extents ≡ k.extents
  extents-one = open-one (seen v) t t' (λ n. (h.proper.lengths n).0) v.slots h.extents k.extents h.open' k.open'

pub holds-one : HoldsOne
holds-one v t t' sized h k =
    let c = catalog-one v t t' sized h k in
    let x = extents-one v t t' sized h k in
    let slots : t.slots ≡ t'.slots = sym h.slots ∙ k.slots in
    let tree : t.tree ≡ t'.tree = sym h.tree ∙ (ap plain_tree c ∙ k.tree) in
    let held : (s : ℕ) (x : Slot) → slot_at t s ≡ Some x → (t.files x.file).bytes ≡ (t'.files x.file).bytes =
    λ s y e. open-same (seen v) t t' v.slots h.extents h.open' (subst (OpenAs (seen v) t' v.slots) (sym x) k.open') s y (ap (λ (os : List (Option Slot)). get_or os s None) h.slots ∙ e) in
    let eight = h.proper.eight in
    let other : (n : ℕ) → (holder n t.slots ≡ slot_count → ⊥) → (t.files n).bytes ≡ (t'.files n).bytes =
    λ n z. (let l = holder-most n t.slots in
    let lt : holder n t.slots < length t.slots = omega (arith, z, l, eight) in
    let r = holder-holds n t.slots lt in
    subst (λ (m : ℕ). (t.files m).bytes ≡ (t'.files m).bytes) r.2 (held (holder n t.slots) r.0 r.1)) in
    let named = named-same v.disk.shown t t' slots other (entries h.catalog) h.catalog.files h.named
    (subst (λ (z : Catalog). NamedAs v.disk.shown t' (entries z) z.files) (sym c) k.named) in
    record {
      ready = sym h.ready ∙ k.ready;
      tree = tree;
      slots = slots;
      free = sym h.free ∙ k.free;
      named = subst (λ (z : _). (e : Entry Key) → In e (to_list z) → ((t.files e.1).bytes ≡ (t'.files e.1).bytes) × ((t.files e.1).closed ≡ (t'.files e.1).closed)) h.tree named;
      held = held;
    }

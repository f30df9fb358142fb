-- From what a call owes to the put that turns.
use Rattle.std.proofs.Common.{◌≡◌, ℕ, zero, suc, ◌<◌, ◌≤◌, Bool, true, false, ◌⊎◌, List, [], ◌∷◌, ◌++◌, map, length, get_or, set, sym, refl, ap, ◌∙◌, subst, inl, inr, arith}
use Rattle.std.proofs.lemmas.List.{length-map}
use Rattle.std.proofs.lemmas.Bool.{and_parts}
use Rattle.std.specs.Prelude.{not, ◌||◌}
use Rattle.numbers.specs.Names.{Key, good_name}
use Rattle.numbers.specs.Order.{Cmp, below, same, above, cmp}
use Rattle.tree.specs.Tree.{Entry, pick, All}
use Rattle.tree.specs.Laws.{put, without}
use Rattle.disk.specs.Meaning.{Contents, In}
use Rattle.catalog.specs.Catalogs.{Extent, Catalog, entries, page_sectors, extents_sectors, file_sectors, Distinct}
use Rattle.catalog.specs.Lays.{FileAt, FilesAt, root_sector}
use Rattle.catalog.proofs.Frame.{in_left, in_right}
use Rattle.promise.specs.Table.{Slot, the_slot, Register, before, slot, slot_at, used, is_empty, is_anonymous}
use Rattle.promise.proofs.Granted.{granted, used-is}
use Rattle.promise.proofs.Beside.{slot-is}
use Rattle.promise.specs.Ledger.{Ledger, slot_of, file_number}
use Rattle.promise.specs.Promise.{Agrees, name_of}
use Rattle.recovery.specs.Picks.{with_sector}
use Rattle.recovery.specs.Owed.{but, placed, no_entry, without_at, put_at, Directory, DeleteTurns, RegisterTurns, CloseTurns, SaneGives, RegisterNamed}
use Rattle.recovery.proofs.Lists.{Own, own_in, own-apart, own-distinct, rest, in_split, join, distinct_apart, distinct-left, distinct-right, get_or-in, file_in}
use Rattle.recovery.proofs.Steps.{sector-apart}
use Rattle.recovery.proofs.Calls.{at-move, file-stays, closing-agrees, deleting-agrees, registering-agrees}

-- PLACES
but-past : {A : Type 0} (n : ℕ) (xs : List A) → length xs ≡ n → but n xs ≡ xs
but-past n [] e = refl
but-past zero (x ∷ xs) e = absurd (omega arith)
but-past (suc n) (x ∷ xs) e = ap (λ (z : List _). x ∷ z) (but-past n xs (omega arith))

pub without-but : (n : Key) (es : List (Entry Key)) → without cmp n es ≡ but (without_at n (map name_of es)) es
without-but n [] = refl
without-but n (e ∷ es) = go (without-but n es) (cmp n e.0)
  where
    go : without cmp n es ≡ but (without_at n (map name_of es)) es → (c : Cmp) → pick c (e ∷ es) es (e ∷ without cmp n es) ≡ but (pick c (suc (length (map name_of es))) 0 (suc (without_at n (map name_of es)))) (e ∷ es)
    go q below = ap (λ (z : List (Entry Key)). e ∷ z) (sym (but-past (length (map name_of es)) es (sym (length-map es name_of))))
    go q same = refl
    go q above = ap (λ (z : List (Entry Key)). e ∷ z) q

pub put-placed : (x : Entry Key) (es : List (Entry Key)) → put cmp x es ≡ placed (put_at x.0 (map name_of es)).0 (put_at x.0 (map name_of es)).1 x es
put-placed x [] = refl
put-placed x (e ∷ es) = go (put-placed x es) (cmp x.0 e.0)
  where
    step : (v : Bool) (j : ℕ) → e ∷ placed v j x es ≡ placed v (suc j) x (e ∷ es)
    step true j = refl
    step false j = refl

    go : put cmp x es ≡ placed (put_at x.0 (map name_of es)).0 (put_at x.0 (map name_of es)).1 x es → (c : Cmp) → pick c (x ∷ e ∷ es) (x ∷ es) (e ∷ put cmp x es) ≡
        placed (pick {A = Bool × ℕ} c (false, 0) (true, 0) ((put_at x.0 (map name_of es)).0, suc (put_at x.0 (map name_of es)).1)).0
        (pick {A = Bool × ℕ} c (false, 0) (true, 0) ((put_at x.0 (map name_of es)).0, suc (put_at x.0 (map name_of es)).1)).1 x (e ∷ es)
    go q below = refl
    go q same = refl
    go q above = ap (λ (z : List (Entry Key)). e ∷ z) q ∙ step (put_at x.0 (map name_of es)).0 (put_at x.0 (map name_of es)).1

all_but : {A : Type 0} (P : A → Type 0) (i : ℕ) (xs : List A) → All P xs → All P (but i xs)
all_but P i [] h = tt
all_but P zero (x ∷ xs) h = h.1
all_but P (suc i) (x ∷ xs) h = (h.0, all_but P i xs h.1)

all_placed : {A : Type 0} (P : A → Type 0) (r : Bool) (i : ℕ) (x : A) (xs : List A) → P x → All P xs → All P (placed r i x xs)
all_placed P true i x [] p h = tt
all_placed P true zero x (y ∷ xs) p h = (p, h.1)
all_placed P true (suc i) x (y ∷ xs) p h = (h.0, all_placed P true i x xs p h.1)
all_placed P false zero x xs p h = (p, h)
all_placed P false (suc i) x [] p h = (p, tt)
all_placed P false (suc i) x (y ∷ xs) p h = (h.0, all_placed P false i x xs p h.1)

at-but : (s : ℕ → Contents) (es : List (Entry Key)) (xs : List Extent) (i : ℕ) → FilesAt s es xs → FilesAt s (but i es) (but i xs)
at-but s [] [] i a = tt
at-but s [] (x ∷ xs) i a = absurd a
at-but s (n ∷ es) [] i a = absurd a
at-but s (n ∷ es) (x ∷ xs) zero a = a.1
at-but s (n ∷ es) (x ∷ xs) (suc i) a = (a.0, at-but s es xs i a.1)

at-placed : (s : ℕ → Contents) (es : List (Entry Key)) (xs : List Extent) (r : Bool) (i : ℕ) (e : Entry Key) (x : Extent) → FileAt s e.1 x → FilesAt s es xs → FilesAt s (placed r i e es) (placed r i x xs)
at-placed s [] [] true i e x h a = tt
at-placed s [] [] false zero e x h a = (h, tt)
at-placed s [] [] false (suc i) e x h a = (h, tt)
at-placed s [] (y ∷ xs) r i e x h a = absurd a
at-placed s (n ∷ es) [] r i e x h a = absurd a
at-placed s (n ∷ es) (y ∷ xs) true zero e x h a = (h, a.1)
at-placed s (n ∷ es) (y ∷ xs) true (suc i) e x h a = (a.0, at-placed s es xs true i e x h a.1)
at-placed s (n ∷ es) (y ∷ xs) false zero e x h a = (h, a)
at-placed s (n ∷ es) (y ∷ xs) false (suc i) e x h a = (a.0, at-placed s es xs false i e x h a.1)

-- SECTORS
join-own : (x : Extent) (xs : List Extent) → Distinct (x.parts ++ x.tabs) → Distinct (extents_sectors xs) → ((t : ℕ) → Own t x → In t (extents_sectors xs) → ⊥) → Distinct (extents_sectors (x ∷ xs))
join-own x xs d e h = join x.parts (x.tabs ++ extents_sectors xs) (distinct-left x.parts x.tabs d)
    (join x.tabs (extents_sectors xs) (distinct-right x.parts x.tabs d) e (λ t i j. h t (inr i) j))
    (λ t i j. elim (in_split t x.tabs (extents_sectors xs) j) [ inl k ↦ distinct_apart x.parts x.tabs t d i k | inr k ↦ h t (inl i) k ])

own-or : (t : ℕ) (x : Extent) (xs : List Extent) → In t (extents_sectors (x ∷ xs)) → Own t x ⊎ In t (extents_sectors xs)
own-or t x xs i = elim (in_split t x.parts (x.tabs ++ extents_sectors xs) i) [
  | inl j ↦ inl (inl j)
  | inr j ↦ elim (in_split t x.tabs (extents_sectors xs) j) [ inl k ↦ inl (inr k) | inr k ↦ inr k ]
]

own-here : (t : ℕ) (x : Extent) (xs : List Extent) → Own t x → In t (extents_sectors (x ∷ xs))
own-here t x xs o = own_in x (x ∷ xs) t (inl refl) o

own-there : (t : ℕ) (x : Extent) (xs : List Extent) → In t (extents_sectors xs) → In t (extents_sectors (x ∷ xs))
own-there t x xs i = in_right t x.parts (x.tabs ++ extents_sectors xs) (in_right t x.tabs (extents_sectors xs) i)

but-ext : (t : ℕ) (i : ℕ) (xs : List Extent) → In t (extents_sectors (but i xs)) → In t (extents_sectors xs)
but-ext t i [] j = j
but-ext t zero (x ∷ xs) j = own-there t x xs j
but-ext t (suc i) (x ∷ xs) j = elim (own-or t x (but i xs) j) [ inl o ↦ own-here t x xs o | inr k ↦ own-there t x xs (but-ext t i xs k) ]

but-distinct : (i : ℕ) (xs : List Extent) → Distinct (extents_sectors xs) → Distinct (extents_sectors (but i xs))
but-distinct i [] d = d
but-distinct zero (x ∷ xs) d = rest x xs d
but-distinct (suc i) (x ∷ xs) d = join-own x (but i xs) (own-distinct (x ∷ xs) x d (inl refl)) (but-distinct i xs (rest x xs d)) (λ t o j. own-apart x xs t d o (but-ext t i xs j))

set-ext : (t : ℕ) (i : ℕ) (x : Extent) (xs : List Extent) → In t (extents_sectors (set xs i x)) → Own t x ⊎ In t (extents_sectors (but i xs))
set-ext t i x [] j = absurd j
set-ext t zero x (y ∷ xs) j = own-or t x xs j
set-ext t (suc i) x (y ∷ xs) j = elim (own-or t y (set xs i x) j) [
  | inl o ↦ inr (own-here t y (but i xs) o)
  | inr k ↦ elim (set-ext t i x xs k) [ inl o ↦ inl o | inr h ↦ inr (own-there t y (but i xs) h) ]
]

set-distinct : (i : ℕ) (x : Extent) (xs : List Extent) → Distinct (extents_sectors xs) → Distinct (x.parts ++ x.tabs) → ((t : ℕ) → Own t x → In t (extents_sectors (but i xs)) → ⊥) → Distinct (extents_sectors (set xs i x))
set-distinct i x [] d e h = tt
set-distinct zero x (y ∷ xs) d e h = join-own x xs e (rest y xs d) h
set-distinct (suc i) x (y ∷ xs) d e h = join-own y (set xs i x) (own-distinct (y ∷ xs) y d (inl refl))
    (set-distinct i x xs (rest y xs d) e (λ t o j. h t o (own-there t y (but i xs) j)))
    (λ t o j. elim (set-ext t i x xs j) [ inl k ↦ h t k (own-here t y (but i xs) o) | inr k ↦ own-apart y xs t d o (but-ext t i xs k) ])

placed-ext : (t : ℕ) (r : Bool) (i : ℕ) (x : Extent) (xs : List Extent) → In t (extents_sectors (placed r i x xs)) → Own t x ⊎ In t (extents_sectors xs)
placed-ext t true i x xs j = elim (set-ext t i x xs j) [ inl o ↦ inl o | inr k ↦ inr (but-ext t i xs k) ]
placed-ext t false zero x xs j = own-or t x xs j
placed-ext t false (suc i) x [] j = own-or t x [] j
placed-ext t false (suc i) x (y ∷ xs) j = elim (own-or t y (placed false i x xs) j) [
  | inl o ↦ inr (own-here t y xs o)
  | inr k ↦ elim (placed-ext t false i x xs k) [ inl o ↦ inl o | inr h ↦ inr (own-there t y xs h) ]
]

placed-distinct : (r : Bool) (i : ℕ) (x : Extent) (xs : List Extent) → Distinct (extents_sectors xs) → Distinct (x.parts ++ x.tabs) → ((t : ℕ) → Own t x → In t (extents_sectors xs) → ⊥) → Distinct (extents_sectors (placed r i x xs))
placed-distinct true i x xs d e h = set-distinct i x xs d e (λ t o j. h t o (but-ext t i xs j))
placed-distinct false zero x xs d e h = join-own x xs e d h
placed-distinct false (suc i) x [] d e h = join-own x [] e tt (λ t o j. j)
placed-distinct false (suc i) x (y ∷ xs) d e h = join-own y (placed false i x xs) (own-distinct (y ∷ xs) y d (inl refl))
    (placed-distinct false i x xs (rest y xs d) e (λ t o j. h t o (own-there t y xs j)))
    (λ t o j. elim (placed-ext t false i x xs j) [ inl k ↦ h t k (own-here t y xs o) | inr k ↦ own-apart y xs t d o k ])

-- a catalog's files stay laid where the root alone is put
module _ (l : Ledger) (size : ℕ) (s : ℕ → Contents) (c : Catalog) (a : Agrees l size s c) (b : Contents) where
  pub untouched : (t : ℕ) → In t (file_sectors c) → with_sector s root_sector b t ≡ s t
  untouched t i = sector-apart s root_sector b t (λ e. distinct_apart (page_sectors c) (file_sectors c) t a.lays.once (inl (e ∙ sym a.lays.root)) i)

  pub still : FilesAt (with_sector s root_sector b) (entries c) c.files
  still = at-move s (with_sector s root_sector b) (entries c) c.files
      (λ e y p. file-stays s (with_sector s root_sector b) e.1 y (λ n o. untouched n (own_in y c.files n (file_in p) o))) a.lays.files

  pub file-inside : (t : ℕ) → In t (file_sectors c) → (1 ≤ t) × (t < size)
  file-inside t i = a.lays.within t (in_right t (page_sectors c) (file_sectors c) i)

  pub files-distinct : Distinct (file_sectors c)
  files-distinct = distinct-right (page_sectors c) (file_sectors c) a.lays.once

pub delete-turns : DeleteTurns
delete-turns l n m c d b o = record {
  kind = refl;
  shows = o.before.shows;
  settled = o.before.settled;
  old = o.before.steady;
  new = deleting-agrees l n i size s s' c d (record {
    agrees = a;
    struck = subst (λ (z : List Key). without cmp n l.names ≡ but (without_at n z) l.names) (sym a.names) (without-but n l.names);
    lays = record {
      root = g.root;
      good = g.good;
      names = subst (λ (z : List (Entry Key)). All (λ (e : Entry Key). good_name e.0 ≡ true) z) (sym names) (all_but (λ (e : Entry Key). good_name e.0 ≡ true) i (entries c) a.lays.names);
      pages = g.pages;
      files = subst (λ (z : List (Entry Key)). FilesAt s' z d.files) (sym names) (subst (λ (z : List Extent). FilesAt s' (but i (entries c)) z) (sym o.files) (at-but s' (entries c) c.files i (still l size s c a b)));
      once = join (page_sectors d) (file_sectors d) g.distinct (subst (λ (z : List Extent). Distinct (extents_sectors z)) (sym o.files) (but-distinct i c.files (files-distinct l size s c a b)))
          (λ t j k. g.apart t j (into t k));
      within = λ t j. elim (in_split t (page_sectors d) (file_sectors d) j) [ inl k ↦ g.inside t k | inr k ↦ file-inside l size s c a b t (into t k) ];
    };
    names = names;
    files = o.files;
    same = untouched l size s c a b;
  });
}
  where
    size : ℕ
    size = m.size

    s : ℕ → Contents
    s = m.shown

    s' : ℕ → Contents
    s' = with_sector m.shown root_sector b

    i : ℕ
    i = without_at n (map name_of (entries c))

    a : Agrees l m.size m.shown c
    a = o.before.steady m.shown o.before.shows

    g : Directory d (with_sector m.shown root_sector b) m.size (file_sectors c)
    g = o.directory

    names : entries d ≡ but (without_at n (map name_of (entries c))) (entries c)
    names = o.names ∙ without-but n (entries c)

    into : (t : ℕ) → In t (extents_sectors d.files) → In t (extents_sectors c.files)
    into t k = but-ext t i c.files (subst (λ (z : List Extent). In t (extents_sectors z)) o.files k)

pub register-turns : RegisterTurns
register-turns l h m c d x k b o = record {
  kind = refl;
  shows = o.before.shows;
  settled = o.before.settled;
  old = o.before.steady;
  new = registering-agrees l h r i size s s' c d x k (record {
    agrees = a;
    entered = subst (λ (z : List Key). put cmp ((slot_of l h).name, (slot_of l h).file) l.names ≡ placed (put_at (slot_of l h).name z).0 (put_at (slot_of l h).name z).1 ((slot_of l h).name, (slot_of l h).file) l.names)
        (sym a.names) (put-placed ((slot_of l h).name, (slot_of l h).file) l.names);
    alone = o.alone;
    known = o.known;
    lays = record {
      root = g.root;
      good = g.good;
      names = subst (λ (z : List (Entry Key)). All (λ (e : Entry Key). good_name e.0 ≡ true) z) (sym names) (all_placed (λ (e : Entry Key). good_name e.0 ≡ true) r i ((slot_of l h).name, k) (entries c) o.name a.lays.names);
      pages = g.pages;
      files = subst (λ (z : List (Entry Key)). FilesAt s' z d.files) (sym names) (subst (λ (z : List Extent). FilesAt s' (placed r i ((slot_of l h).name, k) (entries c)) z) (sym o.files)
          (at-placed s' (entries c) c.files r i ((slot_of l h).name, k) x o.laid (still l size s c a b)));
      once = join (page_sectors d) (file_sectors d) g.distinct
          (subst (λ (z : List Extent). Distinct (extents_sectors z)) (sym o.files) (placed-distinct r i x c.files (files-distinct l size s c a b) o.owned.distinct
          (λ t u v. o.owned.apart t u (in_right t (page_sectors d) (file_sectors c) v))))
          (λ t j v. elim (into t v) [ inl u ↦ o.owned.apart t u (in_left t (page_sectors d) (file_sectors c) j) | inr u ↦ g.apart t j u ]);
      within = λ t j. elim (in_split t (page_sectors d) (file_sectors d) j) [
        | inl u ↦ g.inside t u
        | inr u ↦ elim (into t u) [ inl v ↦ o.owned.inside t v | inr v ↦ file-inside l size s c a b t v ]
      ];
    };
    names = names;
    files = o.files;
    bytes = o.bytes;
    same = untouched l size s c a b;
  });
}
  where
    size : ℕ
    size = m.size

    s : ℕ → Contents
    s = m.shown

    s' : ℕ → Contents
    s' = with_sector m.shown root_sector b

    r : Bool
    r = (put_at (slot_of l h).name (map name_of (entries c))).0

    i : ℕ
    i = (put_at (slot_of l h).name (map name_of (entries c))).1

    a : Agrees l m.size m.shown c
    a = o.before.steady m.shown o.before.shows

    g : Directory d (with_sector m.shown root_sector b) m.size (file_sectors c)
    g = o.directory

    names : entries d ≡ placed (put_at (slot_of l h).name (map name_of (entries c))).0 (put_at (slot_of l h).name (map name_of (entries c))).1 ((slot_of l h).name, k) (entries c)
    names = o.names ∙ put-placed ((slot_of l h).name, k) (entries c)

    into : (t : ℕ) → In t (extents_sectors d.files) → Own t x ⊎ In t (extents_sectors c.files)
    into t v = placed-ext t r i x c.files (subst (λ (z : List Extent). In t (extents_sectors z)) o.files v)

pub close-turns : CloseTurns
close-turns l h i m c x k b o = record {
  kind = refl;
  shows = o.before.shows;
  settled = o.before.settled;
  old = o.before.steady;
  new = closing-agrees l h i m.size m.shown c x k b (record {
    agrees = a;
    there = o.here;
    named = o.named;
    alone = o.alone;
    known = o.known;
    first = o.first;
    laid = o.laid;
    bytes = o.bytes;
    once = join (page_sectors c) (extents_sectors (set c.files i x)) (distinct-left (page_sectors c) (file_sectors c) a.lays.once)
        (set-distinct i x c.files (distinct-right (page_sectors c) (file_sectors c) a.lays.once) o.owned.distinct (λ t u v. o.owned.apart t u (in_right t (page_sectors c) _ v)))
        (λ t j v. elim (set-ext t i x c.files v) [ inl u ↦ o.owned.apart t u (in_left t (page_sectors c) _ j) | inr u ↦ distinct_apart (page_sectors c) (file_sectors c) t a.lays.once j (but-ext t i c.files u) ]);
    within = λ t j. elim (in_split t (page_sectors c) (extents_sectors (set c.files i x)) j) [
      | inl u ↦ a.lays.within t (in_left t (page_sectors c) (file_sectors c) u)
      | inr u ↦ elim (set-ext t i x c.files u) [ inl v ↦ o.owned.inside t v | inr v ↦ a.lays.within t (in_right t (page_sectors c) (file_sectors c) (but-ext t i c.files v)) ]
    ];
  });
}
  where
    a : Agrees l m.size m.shown c
    a = o.before.steady m.shown o.before.shows

-- WHAT A SANE LEDGER GIVES
number_in : (e : Entry Key) (ns : List (Entry Key)) → In e ns → In e.1 (map file_number ns)
number_in e [] i = i
number_in e (n ∷ ns) (inl q) = inl (ap (λ (z : Entry Key). z.1) q)
number_in e (n ∷ ns) (inr i) = inr (number_in e ns i)

but-other : (i : ℕ) (ns : List (Entry Key)) (e : Entry Key) → Distinct (map file_number ns) → i < length ns → In e (but i ns) → e.1 ≡ (get_or ns i no_entry).1 → ⊥
but-other i [] e d u j q = j
but-other zero (n ∷ ns) e d u j q = d.0 (subst (λ (z : ℕ). In z (map file_number ns)) q (number_in e ns j))
but-other (suc i) (n ∷ ns) e d u (inl f) q =
    d.0 (subst (λ (z : ℕ). In z (map file_number ns)) (sym q ∙ ap (λ (z : Entry Key). z.1) f) (number_in (get_or ns i no_entry) ns (get_or-in ns i no_entry (omega arith))))
but-other (suc i) (n ∷ ns) e d u (inr j) q = but-other i ns e d.1 (omega arith) j q

pub sane-gives : SaneGives
sane-gives = record {
  known = λ l h x s e. subst (λ (z : Slot). z.file < length l.files) (sym (ap the_slot e)) (s.held h x e);
  close_alone = λ l h i s u n e j q. but-other i l.names e s.one u j (q ∙ sym n);
  register_alone = λ l h x s e a d j q. s.apart h x e a d j (q ∙ ap (λ (z : Slot). z.file) (ap the_slot e));
}

named : (n : _) → not (is_empty n) ≡ true → (is_empty n || good_name n) ≡ true → good_name n ≡ true
named [] e h = cc
named (x ∷ n) e h = h

pub register-named : RegisterNamed
register-named t l h p g e =
    let q = granted (before t (Register h)) e in
    let u = used-is (slot_at t h) (and_parts (used t h) (is_anonymous (slot t h).sort) q.1.0).0 in
    let s = slot-is t l g h u in
    subst (λ (z : Slot). good_name z.name ≡ true) s.1 (named (slot t h).name q.1.1.0 (p.held h (slot t h) u))

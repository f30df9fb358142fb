-- A small card: its root page, a file in its sector 2, and the tables that stores on it hold.
use Rattle.std.proofs.Common.{◌≡◌, ℕ, zero, suc, ◌+◌, ◌^◌, ◌<◌, ◌≤◌, ◌⊎◌, Bool, true, false, cond, List, [], ◌∷◌, length, get_or, take, sym, refl, ap, ◌∙◌, subst, inl, inr, arith}
use Rattle.std.specs.Prelude.{not, ◌&&◌, ◌||◌, ◌==◌, nat_le, nat_lt}
use Rattle.std.proofs.lemmas.Bool.{and_parts, or_parts, cond_both, eqb-true, leb-true, ltb-true}
use Rattle.numbers.specs.Names.{Key}
use Rattle.numbers.specs.Sectors.{address}
use Rattle.numbers.specs.Lengths.{sector_size, header_size, longest, last_sector, tables}
use Rattle.layout.specs.Words.{blank}
use Rattle.tree.specs.Tree.{Item, page}
use Rattle.disk.specs.Meaning.{Contents, Whole, In}
use Rattle.catalog.specs.Catalogs.{Extent, Catalog, Distinct, extents_sectors, range, member, bytes_of}
use Rattle.catalog.specs.Lays.{PageAt, FileAt, Lays}
use Rattle.catalog.proofs.Written.{page-written, head-written}
use Rattle.promise.specs.Examples.{hall}
use Rattle.promise.specs.Witnesses.{sector_count, root_of, contents, in_second, hall_sector, first_bytes, hall_entry}

-- LISTS of numbers, tested
not-member : (n : ℕ) (l : List ℕ) → member n l ≡ false → In n l → ⊥
not-member n [] h i = i
not-member n (x ∷ l) h (inl e) = let p = or_parts (n == x) (member n l) h in absurd (grind (arith, p.0, e))
not-member n (x ∷ l) h (inr i) = not-member n l (or_parts (n == x) (member n l) h).1 i

abbrev pub all_apart : List ℕ → Bool
all_apart [] = true
all_apart (x ∷ l) = not (member x l) && all_apart l

not-true : (b : Bool) → not b ≡ true → b ≡ false
not-true true h = cc
not-true false h = refl

pub distinct : (l : List ℕ) → all_apart l ≡ true → Distinct l
distinct [] h = tt
distinct (x ∷ l) h = let p = and_parts (not (member x l)) (all_apart l) h in (λ i. not-member x l (not-true (member x l) p.0) i, distinct l p.1)

-- between two bounds
abbrev pub all_within : ℕ → ℕ → List ℕ → Bool
all_within low high [] = true
all_within low high (x ∷ l) = (nat_le low x && nat_lt x high) && all_within low high l

pub within : (low high : ℕ) (l : List ℕ) → all_within low high l ≡ true → (n : ℕ) → In n l → (low ≤ n) × (n < high)
within low high [] h n i = absurd i
within low high (x ∷ l) h n (inr i) = within low high l (and_parts (nat_le low x && nat_lt x high) (all_within low high l) h).1 n i
within low high (x ∷ l) h n (inl e) =
    let p = and_parts (nat_le low x) (nat_lt x high) (and_parts (nat_le low x && nat_lt x high) (all_within low high l) h).0 in
    let a = leb-true low x p.0 in
    let b = ltb-true x high p.1 in
    (omega arith, omega arith)

-- in one of two lists
member-in : (n : ℕ) (l : List ℕ) → member n l ≡ true → In n l
member-in n [] h = cc
member-in n (x ∷ l) h = go (n == x) refl h (member-in n l)
  where
    go : (b : Bool) → (n == x) ≡ b → (b || member n l) ≡ true → (member n l ≡ true → In n l) → (n ≡ x) ⊎ In n l
    go true e k r = inl (eqb-true n x e)
    go false e k r = inr (r k)

abbrev pub all_in : List ℕ → List ℕ → List ℕ → Bool
all_in a b [] = true
all_in a b (x ∷ l) = (member x a || member x b) && all_in a b l

pub either-in : (a b l : List ℕ) → all_in a b l ≡ true → (n : ℕ) → In n l → In n a ⊎ In n b
either-in a b [] h n i = absurd i
either-in a b (x ∷ l) h n (inr i) = either-in a b l (and_parts (member x a || member x b) (all_in a b l) h).1 n i
either-in a b (x ∷ l) h n (inl e) = subst (λ (m : ℕ). In m a ⊎ In m b) (sym e) (go (member x a) refl (and_parts (member x a || member x b) (all_in a b l) h).0)
  where
    go : (c : Bool) → member x a ≡ c → (c || member x b) ≡ true → In x a ⊎ In x b
    go true m k = inl (member-in x a m)
    go false m k = inr (member-in x b k)

-- PAGES AND FIRST SECTORS
pub root-empty : PageAt 0 (root_of []) (page tt []) × (length (root_of []) ≡ sector_size)
root-empty = page-written 0 (page tt []) (omega arith, omega arith, tt)

pub root-hall : PageAt 0 (root_of hall_entry) (page tt hall_entry) × (length (root_of hall_entry) ≡ sector_size)
root-hall = page-written 0 (page tt hall_entry) (omega arith, omega arith, ((omega arith, omega arith, omega arith), tt))

pub hall-laid : (shown : ℕ → Contents) (n : ℕ) (bs : List ℕ) → shown 2 ≡ hall_sector n bs → n ≤ longest → last_sector n ≡ 0 → FileAt shown 2 (in_second n)
hall-laid shown n bs e l z = head-written shown 2 hall (in_second n)
    (record { short = omega arith; fits = l; parts = ap (λ (a : ℕ). 1 + a) (sym z); tabs = ap tables (sym z); small = λ s i. small s i })
    (record { first = refl; head = ap (take header_size) e ∙ refl; far = λ k j a b. absurd (omega arith) })
  where
    small : (s : ℕ) → In s (2 ∷ []) ⊎ In s [] → address s < 2 ^ 32
    small s (inl (inl f)) = omega arith
    small s (inl (inr i)) = absurd i
    small s (inr i) = absurd i

-- each sector is whole
pub contents-long : (xs : List (Item Key (Unit {0}))) (second : Contents) → length (root_of xs) ≡ sector_size → length second ≡ sector_size → (s : ℕ) → length (contents xs second s) ≡ sector_size
unfolding blank
contents-long xs second h k s = cond_both (s == 1) (root_of xs) (cond (s == 2) second blank) (λ (c : Contents). length c ≡ sector_size) (λ e. h) (λ e. cond_both (s == 2) second blank (λ (c : Contents). length c ≡ sector_size) (λ f. k) (λ f. refl))

pub hall-long : length (hall_sector 5 first_bytes) ≡ sector_size
hall-long = refl

pub hall-bytes : (shown : ℕ → Contents) → shown 2 ≡ hall_sector 5 first_bytes → first_bytes ≡ bytes_of shown (in_second 5)
unfolding bytes_of range
hall-bytes shown e = rw e refl

pub no-bytes : (shown : ℕ → Contents) → [] ≡ bytes_of shown (in_second 0)
unfolding bytes_of range
no-bytes shown = refl

-- CATALOGS
abbrev pub empty_catalog : Catalog
empty_catalog = record { over = 0; root = (1, page tt []); files = [] }

pub lays-empty : (second : Contents) → Lays sector_count (contents [] second) empty_catalog
lays-empty second = record {
  root = refl;
  good = record { rises = tt; few = omega arith; filled = (omega arith, omega arith, tt, tt) };
  names = tt;
  pages = (root-empty.0, (tt, tt));
  files = tt;
  once = distinct (1 ∷ []) refl;
  within = within 1 sector_count (1 ∷ []) refl;
}

abbrev pub one_file : Extent → Catalog
one_file x = record { over = 0; root = (1, page tt hall_entry); files = x ∷ [] }

pub lays-one : (size : ℕ) (shown : ℕ → Contents) (x : Extent) → shown 1 ≡ root_of hall_entry → FileAt shown 2 x → all_apart (1 ∷ extents_sectors (x ∷ [])) ≡ true →
    all_within 1 size (1 ∷ extents_sectors (x ∷ [])) ≡ true → Lays size shown (one_file x)
lays-one size shown x e f a w = record {
  root = refl;
  good = record { rises = (tt, tt); few = omega arith; filled = (omega arith, omega arith, tt, (tt, tt)) };
  names = (refl, tt);
  pages = (subst (λ (c : Contents). PageAt 0 c (page tt hall_entry)) (sym e) root-hall.0, (tt, (tt, tt)));
  files = (f, tt);
  once = distinct (1 ∷ extents_sectors (x ∷ [])) a;
  within = within 1 size (1 ∷ extents_sectors (x ∷ [])) w;
}

abbrev pub hall_catalog : Catalog
hall_catalog = one_file (in_second 5)

pub lays-hall : Lays sector_count (contents hall_entry (hall_sector 5 first_bytes)) hall_catalog
lays-hall = lays-one sector_count (contents hall_entry (hall_sector 5 first_bytes)) (in_second 5) refl (hall-laid (contents hall_entry (hall_sector 5 first_bytes)) 5 first_bytes refl (omega arith) refl) refl refl

-- BYTES
below-at : (l : List ℕ) → all_within 0 256 l ≡ true → (i : ℕ) → get_or l i 0 < 256
below-at [] h i = omega arith
below-at (x ∷ l) h zero = (within 0 256 (x ∷ l) h x (inl refl)).1
below-at (x ∷ l) h (suc i) = below-at l (and_parts (nat_le 0 x && nat_lt x 256) (all_within 0 256 l) h).1 i

root-empty-whole : Whole (root_of [])
unfolding blank
root-empty-whole = record { long = root-empty.1; bytes = below-at (root_of []) refl }

root-hall-whole : Whole (root_of hall_entry)
unfolding blank
root-hall-whole = record { long = root-hall.1; bytes = below-at (root_of hall_entry) refl }

hall-whole : Whole (hall_sector 5 first_bytes)
hall-whole = record { long = hall-long; bytes = below-at (hall_sector 5 first_bytes) refl }

blank-whole : Whole blank
unfolding blank
blank-whole = record { long = refl; bytes = below-at blank refl }

all-whole : (xs : List (Item Key (Unit {0}))) (second : Contents) → Whole (root_of xs) → Whole second → (k : ℕ) → Whole (contents xs second k)
all-whole xs second h w k = cond_both (k == 1) (root_of xs) (cond (k == 2) second blank) Whole (λ e. h) (λ e. cond_both (k == 2) second blank Whole (λ f. w) (λ f. blank-whole))

pub empty-whole : (k : ℕ) → Whole (contents [] blank k)
empty-whole = all-whole [] blank root-empty-whole blank-whole

pub begun-whole : (k : ℕ) → Whole (contents [] (hall_sector 5 first_bytes) k)
begun-whole = all-whole [] (hall_sector 5 first_bytes) root-empty-whole hall-whole

pub closed-whole : (k : ℕ) → Whole (contents hall_entry (hall_sector 5 first_bytes) k)
closed-whole = all-whole hall_entry (hall_sector 5 first_bytes) root-hall-whole hall-whole

-- Orders of names, each given by a three-way compare.
use Rattle.std.specs.Prelude.{◌≡◌, ℕ, zero, suc, true, [], ◌∷◌}
use Rattle.std.specs.declared.cmp.Ordering.{Ordering}
pub use Rattle.std.specs.declared.cmp.Ordering.TheVariants.{Less as below, Equal as same, Greater as above}
use Rattle.numbers.specs.Names.{Key, good_name, name_field}

abbrev pub Cmp : Type 0
Cmp = Ordering

-- the answer with the two names exchanged
abbrev pub turn : Cmp → Cmp
turn below = above
turn same = same
turn above = below

-- what makes a three-way compare an order: each two names are below, same or above, and this carries through a third
pub record IsOrder (K : Type 0) (cmp : K → K → Cmp) : Type 0 where
  pub turned : (a b : K) → cmp b a ≡ turn (cmp a b)
  pub carried : (a b c : K) → cmp a b ≡ below → cmp b c ≡ below → cmp a c ≡ below
  pub alike : (a b c : K) → cmp a b ≡ same → cmp a c ≡ cmp b c

-- the first answer, unless it is same
abbrev pub then : Cmp → Cmp → Cmp
then below c = below
then same c = c
then above c = above

abbrev pub cmpℕ : ℕ → ℕ → Cmp
cmpℕ zero zero = same
cmpℕ zero (suc n) = below
cmpℕ (suc m) zero = above
cmpℕ (suc m) (suc n) = cmpℕ m n

-- names rise by their first differing byte; one that begins a longer one is below it
abbrev pub cmp : Key → Key → Cmp
cmp [] [] = same
cmp [] (y ∷ ys) = below
cmp (x ∷ xs) [] = above
cmp (x ∷ xs) (y ∷ ys) = then (cmpℕ x y) (cmp xs ys)

-- what holds of names and their order
pub record NameOrder : Type 0 where
  pub order : IsOrder Key cmp
  -- names that compare as same are one name
  pub exact : (a b : Key) → cmp a b ≡ same → a ≡ b
  -- as they are stored, good names rise in the same way
  pub stored_order : (a b : Key) → good_name a ≡ true → good_name b ≡ true → cmp (name_field a) (name_field b) ≡ cmp a b

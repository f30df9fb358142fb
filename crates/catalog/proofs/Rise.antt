-- The question whether a name rises, and names that do.
use Rattle.std.proofs.Common.{◌≡◌, ℕ, Bool, true, false, cond, ◌&&◌, List, [], ◌∷◌, length, replicate, Ok, Err, sym, refl, ap, subst, ap₂, inl, eqb, arith}
use Rattle.std.proofs.lemmas.Bool.{and_parts, and_from, eqb-true}
use Rattle.numbers.specs.Names.{Key, every, good_name, name_field, name_in, is_name_field}
use Rattle.numbers.specs.Order.{Cmp, below, same, above, cmp}
use Rattle.numbers.proofs.Naming.{formed, only}
use Rattle.numbers.proofs.Ordered.{byte-order}
use Rattle.tree.specs.Tree.{Entry, All, Under, Rises}
use Rattle.tree.proofs.Order.{flip, flip'}
use Rattle.disk.specs.Meaning.{Contents}
use Rattle.catalog.specs.declared.fault.LayoutFault.TheVariants.{BadEntry}
use Rattle.catalog.specs.Questions.{Sofar, rise, is_above, at}
use Rattle.catalog.proofs.Means.{Can, After, Means, Rising}

above-is : (c : Cmp) → is_above c ≡ true → c ≡ above
above-is below e = cc
above-is same e = cc
above-is above e = refl

pub means-rise : (size : ℕ) (shown : ℕ → Contents) (holder : ℕ) (f : List ℕ) (v : ℕ) →
    Means size shown (rise holder f) ((good_name (name_in f) ≡ true) × (f ≡ name_field (name_in f))) [] ((name_in f, v) ∷ []) []
means-rise size shown holder f v = record { sound = λ st st' h. go st st' (is_name_field f && is_above (cmp k st.last)) refl h; complete = λ st p c. on st p c }
  where
    k : Key
    k = name_in f

    go : (st st' : Sofar) (b : Bool) → (is_name_field f && is_above (cmp (name_in f) st.last)) ≡ b →
        cond b (Ok (record { met = st.met; last = name_in f; listed = st.listed })) (Err (BadEntry (at holder))) ≡ Ok st' →
        ((good_name (name_in f) ≡ true) × (f ≡ name_field (name_in f))) × Can size [] ((name_in f, v) ∷ []) st × After shown [] ((name_in f, v) ∷ []) [] st st'
    go st st' false e h = cc
    go st st' true e h =
        let p = and_parts (is_name_field f) (is_above (cmp (name_in f) st.last)) e in
        let q = only f p.0 in
        let r : record { met = st.met; last = name_in f; listed = st.listed } ≡ st' = cc in (
          (q.0, sym q.1),
          record { free = λ n. inl refl; rising = (above-is _ p.1, tt) },
          subst (λ (z : Sofar). After shown [] ((name_in f, v) ∷ []) [] st z) r (record { met = λ n. omega arith; last = refl; listed = refl }),
        )

    on : (st : Sofar) → (good_name (name_in f) ≡ true) × (f ≡ name_field (name_in f)) → Can size [] ((name_in f, v) ∷ []) st → (st' : Sofar) × (rise holder f st ≡ Ok st')
    on st p c =
        let s : is_name_field f ≡ true = subst (λ (z : List ℕ). is_name_field z ≡ true) (sym p.1) (formed (name_in f) p.0) in
        let t = and_from (is_name_field f) _ s (ap is_above c.rising.0) in
        (record { met = st.met; last = name_in f; listed = st.listed }, rw t)

-- RISING
rising_under : (l : Key) (es : List (Entry Key)) → Rising l es → Under cmp l es
rising_under l [] h = tt
rising_under l (e ∷ es) h = (flip' cmp byte-order e.0 l h.0, more l e.0 es (flip' cmp byte-order e.0 l h.0) (rising_under e.0 es h.1))
  where
    more : (l k : Key) (es : List (Entry Key)) → cmp l k ≡ below → Under cmp k es → Under cmp l es
    more l k [] b h = tt
    more l k (e ∷ es) b h = (byte-order.carried l k e.0 b h.0, more l k es b h.1)

pub rising_rises : (l : Key) (es : List (Entry Key)) → Rising l es → Rises cmp es
rising_rises l [] h = tt
rising_rises l (e ∷ es) h = (rising_under e.0 es h.1, rising_rises e.0 es h.1)

pub rises_rising : (l : Key) (es : List (Entry Key)) → Under cmp l es → Rises cmp es → Rising l es
rises_rising l [] u h = tt
rises_rising l (e ∷ es) u h = (flip cmp byte-order l e.0 u.0, rises_rising e.0 es h.0 h.1)

pub names-over-none : (es : List (Entry Key)) → All (λ (e : Entry Key). good_name e.0 ≡ true) es → Under cmp [] es
names-over-none [] h = tt
names-over-none (e ∷ es) h = (first e.0 h.0, names-over-none es h.1)
  where
    first : (k : Key) → good_name k ≡ true → cmp [] k ≡ below
    first [] h = cc
    first (x ∷ k) h = refl

-- zeros asked one by one
pub zeros-are : (l : List ℕ) → every (λ (x : ℕ). eqb x 0) l ≡ true → l ≡ replicate (length l) 0
zeros-are [] h = refl
zeros-are (x ∷ l) h = let p = and_parts (eqb x 0) (every (λ (x : ℕ). eqb x 0) l) h in ap₂ ◌∷◌ (eqb-true x 0 p.0) (zeros-are l p.1)

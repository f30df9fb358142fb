-- What a step of the questions means: when it goes on, and from which state to which.
use Rattle.std.proofs.Common.{◌≡◌, ℕ, zero, suc, ◌+◌, ◌/◌, ◌<◌, ◌≤◌, Bool, true, false, cond, eqb, ◌⊎◌, List, [], ◌∷◌, ◌++◌, Ok, Err, Result, sym, refl, ap, ◌∙◌, subst, inl, inr, arith}
use Rattle.std.proofs.lemmas.Bool.{eqb-true, eq-eqb, cases_eq}
use Rattle.numbers.specs.Names.{Key}
use Rattle.numbers.specs.Order.{above, cmp}
use Rattle.numbers.specs.Sectors.{address_step, address, leads}
use Rattle.numbers.proofs.Linking.{leads-says, leads-from}
use Rattle.tree.specs.Tree.{Entry, All}
use Rattle.disk.specs.Meaning.{Contents}
use Rattle.catalog.specs.declared.fault.LayoutFault.{LayoutFault}
use Rattle.catalog.specs.declared.fault.LayoutFault.TheVariants.{BadAddress}
use Rattle.catalog.specs.Catalogs.{Row, member, range}
use Rattle.catalog.specs.Questions.{Sofar, Step, ask, onward, ◌▸◌, done, each, at, meet, list, link, length_at}
use Rattle.catalog.proofs.Counts.{tick, occ, occ-append, tick_same, member-false, member-true, gather, spread}

-- names above the last one, each above the one before
abbrev pub Rising : Key → List (Entry Key) → Type 0
Rising l [] = Unit {0}
Rising l (e ∷ es) = (cmp e.0 l ≡ above) × Rising e.0 es

abbrev pub last_of : Key → List (Entry Key) → Key
last_of l [] = l
last_of l (e ∷ es) = last_of e.0 es

last_of-append : (l : Key) (es ds : List (Entry Key)) → last_of l (es ++ ds) ≡ last_of (last_of l es) ds
last_of-append l [] ds = refl
last_of-append l (e ∷ es) ds = last_of-append e.0 es ds

rising_join : (l : Key) (es ds : List (Entry Key)) → Rising l es → Rising (last_of l es) ds → Rising l (es ++ ds)
rising_join l [] ds h k = k
rising_join l (e ∷ es) ds h k = (h.0, rising_join e.0 es ds h.1 k)

rising_left : (l : Key) (es ds : List (Entry Key)) → Rising l (es ++ ds) → Rising l es
rising_left l [] ds h = tt
rising_left l (e ∷ es) ds h = (h.0, rising_left e.0 es ds h.1)

rising_right : (l : Key) (es ds : List (Entry Key)) → Rising l (es ++ ds) → Rising (last_of l es) ds
rising_right l [] ds h = h
rising_right l (e ∷ es) ds h = rising_right e.0 es ds h.1

-- the sectors us are on the disk and met for the first time
abbrev pub Free : ℕ → List ℕ → List ℕ → Type 0
Free size us met = (n : ℕ) → (occ n us ≡ 0) ⊎ ((occ n us + occ n met ≤ 1) × (2 ≤ n) × (n < size))

pub record Can (size : ℕ) (us : List ℕ) (es : List (Entry Key)) (st : Sofar) : Type 0 where
  pub free : Free size us st.met
  pub rising : Rising st.last es

-- the line of an entry, and the lines of several put upon those listed so far
abbrev pub line : (ℕ → Contents) → Entry Key → Row
line shown e = record { name = e.0; first = e.1; long = length_at 0 shown e.1 }

abbrev pub pile : (ℕ → Contents) → List (Entry Key) → List Row → List Row
pile shown [] m = m
pile shown (e ∷ es) m = pile shown es (line shown e ∷ m)

pile-append : (shown : ℕ → Contents) (es ds : List (Entry Key)) (m : List Row) → pile shown (es ++ ds) m ≡ pile shown ds (pile shown es m)
pile-append shown [] ds m = refl
pile-append shown (e ∷ es) ds m = pile-append shown es ds (line shown e ∷ m)

pub record After (shown : ℕ → Contents) (us : List ℕ) (es ls : List (Entry Key)) (st st' : Sofar) : Type 0 where
  pub met : (n : ℕ) → occ n st'.met ≡ occ n us + occ n st.met
  pub last : st'.last ≡ last_of st.last es
  pub listed : st'.listed ≡ pile shown ls st.listed

-- a step goes on exactly if P holds, the sectors us are free and the names of es rise; then these are met and passed, and the files of ls found
pub record Means (size : ℕ) (shown : ℕ → Contents) (f : Step) (P : Type 0) (us : List ℕ) (es ls : List (Entry Key)) : Type 0 where
  pub sound : (st st' : Sofar) → f st ≡ Ok st' → P × Can size us es st × After shown us es ls st st'
  pub complete : (st : Sofar) → P → Can size us es st → (st' : Sofar) × (f st ≡ Ok st')

-- an address and what is asked behind it
abbrev pub Links : Bool → ℕ → (ℕ → Type 0) → Type 0
Links true w P = (w ≡ address (w / address_step)) × P (w / address_step)
Links false w P = w ≡ 0

abbrev pub Due : Bool → ℕ → Type 0
Due true w = (w ≡ address (w / address_step)) × Unit {0}
Due false w = Unit {0}

all_at : (P : ℕ → Type 0) (low n : ℕ) → All P (range low n) → (i : ℕ) → low ≤ i → i < low + n → P i
unfolding range
all_at P low zero h i l u = absurd (omega arith)
all_at P low (suc n) h i l u = go (cases_eq i low) (λ k. all_at P (suc low) n h.1 i k (omega arith))
  where
    go : (i ≡ low) ⊎ (i ≡ low → ⊥) → (suc low ≤ i → P i) → P i
    go (inl e) r = subst P (sym e) h.0
    go (inr e) r = r (omega arith)

at_all : (P : ℕ → Type 0) (low n : ℕ) → ((i : ℕ) → low ≤ i → i < low + n → P i) → All P (range low n)
unfolding range
at_all P low zero h = tt
at_all P low (suc n) h = (h low (omega arith) (omega arith), at_all P (suc low) n (λ i l u. h i (omega arith) (omega arith)))

module _ {size : ℕ} {shown : ℕ → Contents} where
  pub means-iff : {f : Step} {P Q : Type 0} {us : List ℕ} {es ls : List (Entry Key)} → (P → Q) → (Q → P) → Means size shown f P us es ls → Means size shown f Q us es ls
  means-iff to back m = record {
    sound = λ st st' h. let r = m.sound st st' h in (to r.0, r.1, r.2);
    complete = λ st q c. m.complete st (back q) c;
  }

module _ (size : ℕ) (shown : ℕ → Contents) where
  -- nothing met, no name
  can-none : (st : Sofar) → Can size [] [] st
  can-none st = record { free = λ n. inl refl; rising = tt }

  after-none : (st st' : Sofar) → st ≡ st' → After shown [] [] [] st st'
  after-none st st' e = subst (λ (z : Sofar). After shown [] [] [] st z) e (record { met = λ n. omega arith; last = refl; listed = refl })

  pub means-ask : (b : Bool) (r : LayoutFault) → Means size shown (ask b r) (b ≡ true) [] [] []
  means-ask true r = record { sound = λ st st' h. (refl, can-none st, after-none st st' (cc)); complete = λ st p c. (st, refl) }
  means-ask false r = record { sound = λ st st' h. cc; complete = λ st p c. cc }

  pub means-done : Means size shown done (Unit {0}) [] [] []
  means-done = record { sound = λ st st' h. (tt, can-none st, after-none st st' (cc)); complete = λ st p c. (st, refl) }

  -- a file is found
  pub means-list : (e : Entry Key) → Means size shown (list (line shown e)) (Unit {0}) [] [] (e ∷ [])
  means-list e = record {
    sound = λ st st' h.
        let q : record { met = st.met; last = st.last; listed = line shown e ∷ st.listed } ≡ st' = cc in
        (tt, can-none st, subst (λ (z : Sofar). After shown [] [] (e ∷ []) st z) q (record { met = λ n. omega arith; last = refl; listed = refl }));
    complete = λ st p c. (record { met = st.met; last = st.last; listed = line shown e ∷ st.listed }, refl);
  }

  free_join : (us vs m m₁ : List ℕ) → ((n : ℕ) → occ n m₁ ≡ occ n us + occ n m) → Free size us m → Free size vs m₁ → Free size (us ++ vs) m
  free_join us vs m m₁ e f g n = go (f n) (g n)
    where
      a : occ n (us ++ vs) ≡ occ n us + occ n vs
      a = occ-append n us vs

      x : occ n m₁ ≡ occ n us + occ n m
      x = e n

      go : (occ n us ≡ 0) ⊎ ((occ n us + occ n m ≤ 1) × (2 ≤ n) × (n < size)) → (occ n vs ≡ 0) ⊎ ((occ n vs + occ n m₁ ≤ 1) × (2 ≤ n) × (n < size)) →
          (occ n (us ++ vs) ≡ 0) ⊎ ((occ n (us ++ vs) + occ n m ≤ 1) × (2 ≤ n) × (n < size))
      go (inl p) (inl q) = inl (omega (arith, a, x))
      go (inl p) (inr q) = inr (omega (arith, a, x))
      go (inr p) (inl q) = inr (omega (arith, a, x))
      go (inr p) (inr q) = inr (omega (arith, a, x))

  free_left : (us vs m : List ℕ) → Free size (us ++ vs) m → Free size us m
  free_left us vs m f n = go (f n)
    where
      a : occ n (us ++ vs) ≡ occ n us + occ n vs
      a = occ-append n us vs

      go : (occ n (us ++ vs) ≡ 0) ⊎ ((occ n (us ++ vs) + occ n m ≤ 1) × (2 ≤ n) × (n < size)) → (occ n us ≡ 0) ⊎ ((occ n us + occ n m ≤ 1) × (2 ≤ n) × (n < size))
      go (inl p) = inl (omega (arith, a))
      go (inr p) = inr (omega (arith, a))

  free_right : (us vs m m₁ : List ℕ) → ((n : ℕ) → occ n m₁ ≡ occ n us + occ n m) → Free size (us ++ vs) m → Free size vs m₁
  free_right us vs m m₁ e f n = go (f n)
    where
      a : occ n (us ++ vs) ≡ occ n us + occ n vs
      a = occ-append n us vs

      x : occ n m₁ ≡ occ n us + occ n m
      x = e n

      go : (occ n (us ++ vs) ≡ 0) ⊎ ((occ n (us ++ vs) + occ n m ≤ 1) × (2 ≤ n) × (n < size)) → (occ n vs ≡ 0) ⊎ ((occ n vs + occ n m₁ ≤ 1) × (2 ≤ n) × (n < size))
      go (inl p) = inl (omega (arith, a))
      go (inr p) = inr (omega (arith, a, x))

  pub means-seq : (f g : Step) (P Q : Type 0) (us vs : List ℕ) (es ds ls ms : List (Entry Key)) → Means size shown f P us es ls → Means size shown g Q vs ds ms →
      Means size shown (f ▸ g) (P × Q) (us ++ vs) (es ++ ds) (ls ++ ms)
  means-seq f g P Q us vs es ds ls ms m k = record { sound = λ st st' h. go st st' (f st) refl h; complete = λ st p c. on st p c }
    where
      go : (st st' : Sofar) (r : Result Sofar LayoutFault) → f st ≡ r → onward g r ≡ Ok st' → (P × Q) × Can size (us ++ vs) (es ++ ds) st × After shown (us ++ vs) (es ++ ds) (ls ++ ms) st st'
      go st st' (Err x) e h = cc
      go st st' (Ok s) e h =
          let a = m.sound st s e in
          let b = k.sound s st' h in (
            (a.0, b.0),
            record {
              free = free_join us vs st.met s.met a.2.met a.1.free b.1.free;
              rising = rising_join st.last es ds a.1.rising (subst (λ (z : Key). Rising z ds) a.2.last b.1.rising);
            },
            record {
              met = λ n. omega (arith, a.2.met n, b.2.met n, occ-append n us vs);
              last = b.2.last ∙ (ap (λ (z : Key). last_of z ds) a.2.last ∙ sym (last_of-append st.last es ds));
              listed = b.2.listed ∙ (ap (λ (z : List Row). pile shown ms z) a.2.listed ∙ sym (pile-append shown ls ms st.listed));
            },
          )

      on : (st : Sofar) → P × Q → Can size (us ++ vs) (es ++ ds) st → (st' : Sofar) × ((f ▸ g) st ≡ Ok st')
      on st p c =
          let a = m.complete st p.0 (record { free = free_left us vs st.met c.free; rising = rising_left st.last es ds c.rising }) in
          let s = (m.sound st a.0 a.1).2 in
          let b = k.complete a.0 p.1 (record {
            free = free_right us vs st.met a.0.met s.met c.free;
            rising = subst (λ (z : Key). Rising z ds) (sym s.last) (rising_right st.last es ds c.rising);
          }) in
          (b.0, ap (onward g) a.1 ∙ b.1)

  free-one : (x : ℕ) (m : List ℕ) → 2 ≤ x → x < size → occ x m ≡ 0 → Free size (x ∷ []) m
  free-one x m l u z n = go (eqb n x) refl
    where
      go : (b : Bool) → eqb n x ≡ b → (cond b 1 0 + 0 ≡ 0) ⊎ ((cond b 1 0 + 0 + occ n m ≤ 1) × (2 ≤ n) × (n < size))
      go false e = inl refl
      go true e = let q = eqb-true n x e in let y = ap (λ (k : ℕ). occ k m) q in inr (omega arith)

  means-meet : (holder x : ℕ) (b : Bool) (r : LayoutFault) (R : Type 0) → (b ≡ true → R × (2 ≤ x) × (x < size)) → (R → 2 ≤ x → x < size → b ≡ true) →
      Means size shown (ask b r ▸ meet holder x) R (x ∷ []) [] []
  means-meet holder x b r R to back = record { sound = λ st st' h. go st st' b refl (member x st.met) refl h; complete = λ st p c. on st p c }
    where
      go : (st st' : Sofar) (b' : Bool) → b ≡ b' → (d : Bool) → member x st.met ≡ d → onward (λ (s : Sofar). meet holder x s) (ask b' r st) ≡ Ok st' →
          R × Can size (x ∷ []) [] st × After shown (x ∷ []) [] [] st st'
      go st st' false e d k h = cc
      go st st' true e true k h = let h₁ = rw k at h in cc
      go st st' true e false k h =
          let t = to e in
          let h₁ = rw k at h in
          let q : record { met = x ∷ st.met; last = st.last; listed = st.listed } ≡ st' = cc in (
            t.0,
            record { free = free-one x st.met t.1 t.2 (member-false x st.met k); rising = tt },
            subst (λ (z : Sofar). After shown (x ∷ []) [] [] st z) q (record { met = λ n. omega arith; last = refl; listed = refl }),
          )

      on : (st : Sofar) → R → Can size (x ∷ []) [] st → (st' : Sofar) × ((ask b r ▸ meet holder x) st ≡ Ok st')
      on st p c = by_free (c.free x)
        where
          by_free : (tick x x + 0 ≡ 0) ⊎ ((tick x x + 0 + occ x st.met ≤ 1) × (2 ≤ x) × (x < size)) → (st' : Sofar) × ((ask b r ▸ meet holder x) st ≡ Ok st')
          by_free (inl z) = let t = tick_same x in absurd (omega arith)
          by_free (inr z) =
              let t = tick_same x in
              let y : occ x st.met ≡ 0 = omega arith in
              (record { met = x ∷ st.met; last = st.last; listed = st.listed }, rw (back p z.1 z.2) (rw (not_member (member x st.met) refl y)))
            where
              not_member : (d : Bool) → member x st.met ≡ d → occ x st.met ≡ 0 → member x st.met ≡ false
              not_member false e y = e
              not_member true e y = let q = member-true x st.met e in absurd (omega arith)

  pub free-head : (x : ℕ) (l m : List ℕ) → Free size (x ∷ l) m → (2 ≤ x) × (x < size)
  free-head x l m f = go (f x)
    where
      go : (occ x (x ∷ l) ≡ 0) ⊎ ((occ x (x ∷ l) + occ x m ≤ 1) × (2 ≤ x) × (x < size)) → (2 ≤ x) × (x < size)
      go (inl z) = let t = tick_same x in absurd (omega arith)
      go (inr z) = (z.1, z.2)

  pub means-link : (holder w : ℕ) (f : ℕ → Step) (P : ℕ → Type 0) (us : ℕ → List ℕ) (es ls : ℕ → List (Entry Key)) → ((n : ℕ) → Means size shown (f n) (P n) (us n) (es n) (ls n)) →
      Means size shown (link size shown true holder w f) ((w ≡ address (w / address_step)) × P (w / address_step))
      (w / address_step ∷ us (w / address_step)) (es (w / address_step)) (ls (w / address_step))
  means-link holder w f P us es ls m =
      let x = w / address_step in
      let a = means-meet holder x (leads size w) (BadAddress (at holder)) (w ≡ address x) (λ e. leads-says size w e)
      (λ p l u. subst (λ (z : ℕ). leads size z ≡ true) (sym p) (leads-from size x l u)) in
      means-seq (ask (leads size w) (BadAddress (at holder)) ▸ meet holder x) (f x) (w ≡ address x) (P x) (x ∷ []) (us x) [] (es x) [] (ls x) a (m x)

  pub means-none : (holder w : ℕ) (f : ℕ → Step) → Means size shown (link size shown false holder w f) (w ≡ 0) [] [] []
  means-none holder w f = means-iff (λ e. eqb-true w 0 e) (λ e. eq-eqb w 0 e) (means-ask (eqb w 0) (BadAddress (at holder)))

  -- either, as a test says; no names
  pub means-either : (holder w : ℕ) (f : ℕ → Step) (P : ℕ → Type 0) (us : ℕ → List ℕ) → ((n : ℕ) → Means size shown (f n) (P n) (us n) [] []) →
      (b : Bool) → Means size shown (link size shown b holder w f) (Links b w P) (cond b (w / address_step ∷ us (w / address_step)) []) [] []
  means-either holder w f P us m true = means-link holder w f P us (λ n. []) (λ n. []) m
  means-either holder w f P us m false = means-none holder w f

  pub means-due : (holder w : ℕ) (b : Bool) → Means size shown (cond b (link size shown true holder w (λ n. done)) done) (Due b w) (cond b (w / address_step ∷ []) []) [] []
  means-due holder w true = means-link holder w (λ n. done) (λ n. Unit {0}) (λ n. []) (λ n. []) (λ n. []) (λ n. means-done)
  means-due holder w false = means-done

  -- a run of steps without names
  each-none : (f : ℕ → Step) (P : ℕ → Type 0) (us : ℕ → List ℕ) → ((i : ℕ) → Means size shown (f i) (P i) (us i) [] []) → (is : List ℕ) → Means size shown (each f is) (All P is) (gather us is) [] []
  each-none f P us m [] = means-done
  each-none f P us m (i ∷ is) = means-seq (f i) (each f is) (P i) (All P is) (us i) (gather us is) [] [] [] [] (m i) (each-none f P us m is)

  pub means-range : (f : ℕ → Step) (P : ℕ → Type 0) (us : ℕ → List ℕ) → ((i : ℕ) → Means size shown (f i) (P i) (us i) [] []) → (low n : ℕ) →
      Means size shown (each f (range low n)) ((i : ℕ) → low ≤ i → i < low + n → P i) (spread us low n) [] []
  unfolding spread
  means-range f P us m low n = means-iff (λ h. all_at P low n h) (λ h. at_all P low n h) (each-none f P us m (range low n))

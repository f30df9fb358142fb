-- A hold keeps the rules of a disk. `kept` tells what it keeps of each sector; how that is stored does not matter here.
use Rattle.std.proofs.Common.{◌≡◌, ℕ, ◌<◌, true, cond, eqb, ◌⊎◌, List, Some, None, Ok, Err, Option, sym, refl, ap, ◌∙◌, subst, inl, inr, ⊎_elim, arith}
use Rattle.std.proofs.lemmas.Bool.{eq-eqb, ne_eqb, cases_eq}
use Rattle.disk.specs.declared.fault.Cause.{Cause}
use Rattle.disk.specs.declared.fault.Cause.TheVariants.{Outside, Gone}
use Rattle.disk.specs.declared.fault.DiskFault.{DiskFault}
use Rattle.disk.specs.Meaning.{Contents, Whole, Meaning, In, Sound}
use Rattle.disk.specs.Rules.{Answer, Settled, Refuses, Stops, GetAnswers, Gets, Puts, SettleAnswers, Settles, RestartAnswers, Restarts}
use Rattle.layers.specs.Holding.{held, kept_or, and_kept, Spills, SpillAnswers}

abbrev pub Keeper : Type 0
Keeper = ℕ → Option Contents

-- each kept sector is whole
abbrev pub AllWhole : Keeper → Type 0
AllWhole kept = (k : ℕ) (x : Contents) → kept k ≡ Some x → Whole x

-- MEMBERS of a set with one more that is kept

in-below : (o : Option Contents) (x : Contents) (xs : List Contents) → In x xs → In x (and_kept o xs)
in-below (Some y) x xs i = inr i
in-below None x xs i = i

in_kept : (o : Option Contents) (x : Contents) (xs : List Contents) → o ≡ Some x → In x (and_kept o xs)
in_kept (Some y) x xs e = inl cc
in_kept None x xs e = cc

in-cases : (o : Option Contents) (x : Contents) (xs : List Contents) → In x (and_kept o xs) → In x xs ⊎ (o ≡ Some x)
in-cases (Some y) x xs (inl e) = inr (ap Some (sym e))
in-cases (Some y) x xs (inr i) = inl i
in-cases None x xs i = inl i

-- more members below are more members of a hold
wider : (o : Option Contents) (x : Contents) (xs ys : List Contents) → (In x xs → In x ys) → In x (and_kept o xs) → In x (and_kept o ys)
wider o x xs ys h i = ⊎_elim (λ j. in-below o x ys (h j)) (in_kept o x ys) (in-cases o x xs i)

mine : (m : Meaning) (k : ℕ) (o : Option Contents) → In (m.shown k) (m.may k) → In (kept_or o (m.shown k)) (and_kept o (m.may k))
mine m k (Some x) i = inl refl
mine m k None i = i

pub sound-held : (f : Keeper) (m : Meaning) → AllWhole f → Sound m → Sound (held f m)
sound-held f m w s = record {
  shows = λ l k lt. mine m k (f k) (s.shows l k lt);
  some = λ k lt. ((s.some k lt).0, in-below (f k) (s.some k lt).0 (m.may k) (s.some k lt).1);
  whole = λ k x lt i. ⊎_elim (s.whole k x lt) (w k x) (in-cases (f k) x (m.may k) i);
}

-- the answer to a put after which a row is kept no more
abbrev pub LetsGo : Answer → Type 0
LetsGo (Ok _) = Unit {0}
LetsGo (Err fault) = fault.cause ≡ Outside

-- SPILLS: a row of f, sector s with x, is put down, and g keeps the others

module _ (f g : Keeper) (m m' : Meaning) (s : ℕ) (x : Contents)
    (has : f s ≡ Some x) (off : g s ≡ None) (same : (k : ℕ) → (k ≡ s → ⊥) → g k ≡ f k) (w : AllWhole g) where
  spills-shows : (p : Puts m s x (Ok tt) m') (k : ℕ) → k < m.size → kept_or (g k) (m'.shown k) ≡ kept_or (f k) (m.shown k)
  spills-shows p k lt =
      ⊎_elim
      (λ (e : k ≡ s). cc (p.answer.shown))
      (λ ne. cc (same k ne, p.others k lt ne))
      (cases_eq k s)

  fewer-by : (adds : (k : ℕ) (y : Contents) → k < m.size → In y (m'.may k) → In y (m.may k) ⊎ ((k ≡ s) × (y ≡ x) × (m.live ≡ true)))
      (k : ℕ) (y : Contents) → k < m.size → In y (and_kept (g k) (m'.may k)) → In y (and_kept (f k) (m.may k))
  fewer-by adds k y lt i =
      ⊎_elim
      (λ j. ⊎_elim (in-below (f k) y (m.may k)) (λ z. in_kept (f k) y (m.may k) (ap f z.0 ∙ (has ∙ ap Some (sym z.1)))) (adds k y lt j))
      (λ e. ⊎_elim (λ (z : k ≡ s). cc) (λ ne. in_kept (f k) y (m.may k) (sym (same k ne) ∙ e)) (cases_eq k s))
      (in-cases (g k) y (m'.may k) i)

  spills-ok : Puts m s x (Ok tt) m' → Spills (held f m) (Ok tt) (held g m')
  spills-ok p = record {
    answer = (p.answer.was, p.answer.live);
    size = p.size;
    shows = spills-shows p;
    fewer = fewer-by p.adds;
    calm = record { stays = p.calm.stays; accepts = λ _ _. refl };
    sound = sound-held g m' w p.sound;
  }

  pub spills-told : (r : Answer) → LetsGo r → m.live ≡ true → Puts m s x r m' → Spills (held f m) (Ok tt) (held g m')
  spills-told (Ok _) h l p = spills-ok p
  spills-told (Err fault) h l p =
      let o = subst (λ c. Refuses c m s fault m') h p.answer in
      let beyond = o.beyond in
      record {
        answer = (l, ap (λ (n : Meaning). n.live) o.same ∙ l);
        size = p.size;
        shows = λ k lt. let ne : k ≡ s → ⊥ = λ e. omega arith in cc (same k ne, p.others k lt ne);
        fewer = fewer-by p.adds;
        calm = record { stays = p.calm.stays; accepts = λ _ _. refl };
        sound = sound-held g m' w p.sound;
      }

-- the put of a row is gone, and it stays kept
module _ (f : Keeper) (m m' : Meaning) (s : ℕ) (x : Contents) (has : f s ≡ Some x) (w : AllWhole f) where
  pub spills-gone : (fault : DiskFault) → fault.cause ≡ Gone → Puts m s x (Err fault) m' → Spills (held f m) (Err fault) (held f m')
  spills-gone fault is p =
      let h = subst (λ c. Refuses c m s fault m') is p.answer in
      record {
        answer = subst (λ c. Stops c (held f m')) (sym is) h.lost;
        size = p.size;
        shows = λ k lt.
            ⊎_elim
            (λ (e : k ≡ s). cc)
            (λ ne. ap (kept_or (f k)) (p.others k lt ne))
            (cases_eq k s);
        fewer = λ k y lt i.
            ⊎_elim
            (λ j. ⊎_elim (in-below (f k) y (m.may k)) (λ z. in_kept (f k) y (m.may k) (ap f z.0 ∙ (has ∙ ap Some (sym z.1)))) (p.adds k y lt j))
            (in_kept (f k) y (m.may k))
            (in-cases (f k) y (m'.may k) i);
        calm = record { stays = p.calm.stays; accepts = λ c l. p.calm.accepts c (l, h.inside) };
        sound = sound-held f m' w p.sound;
      }

pub spills-none : (m : Meaning) → Sound m → m.live ≡ true → Spills m (Ok tt) m
spills-none m s l = record {
  answer = (l, l);
  size = refl;
  shows = λ k lt. refl;
  fewer = λ k x lt i. i;
  calm = record { stays = λ c. c; accepts = λ c _. refl };
  sound = s;
}

spills-answer : (a b d : Meaning) (r : Answer) → a.live ≡ true → SpillAnswers b r d → SpillAnswers a r d
spills-answer a b d (Ok _) l h = (l, h.1)
spills-answer a b d (Err f) l h = h

pub spills-more : (a b d : Meaning) (r : Answer) → Spills a (Ok tt) b → Spills b r d → Spills a r d
spills-more a b d r s p =
    let z = s.size in
    record {
      answer = spills-answer a b d r s.answer.0 p.answer;
      size = p.size ∙ s.size;
      shows = λ k lt. p.shows k (omega arith) ∙ s.shows k lt;
      fewer = λ k x lt i. s.fewer k x lt (p.fewer k x (omega arith) i);
      calm = record {
        stays = λ c. p.calm.stays (s.calm.stays c);
        accepts = λ c l. p.calm.accepts (s.calm.stays c) s.answer.1;
      };
      sound = p.sound;
    }

-- a put is gone on the way, and a `?` hands that on
pub spills-err : (a b d : Meaning) (r : Answer) (fault : DiskFault) → r ≡ Err fault → Spills a (Ok tt) b → Spills b (Err fault) d → Spills a r d
spills-err a b d r fault is s p = rw is (spills-more a b d (Err fault) s p)

-- PUT: sector n is kept as x
pub puts-kept : (f g : Keeper) (m : Meaning) (n : ℕ) (x : Contents) → n < m.size → m.live ≡ true → Sound m → AllWhole g →
    ((k : ℕ) → g k ≡ cond (eqb n k) (Some x) (f k)) → Puts (held f m) n x (Ok tt) (held g m)
puts-kept f g m n x lt l s w is =
    let here : g n ≡ Some x = is n ∙ ap (λ t. cond t (Some x) (f n)) (eq-eqb n n refl) in
    let other : (k : ℕ) → (k ≡ n → ⊥) → g k ≡ f k = λ k ne. is k ∙ ap (λ t. cond t (Some x) (f k)) (ne_eqb n k (λ e. ne (sym e))) in
    record {
      answer = record { inside = lt; was = l; live = l; shown = ap (λ o. kept_or o (m.shown n)) here };
      size = refl;
      others = λ k kt ne. ap (λ o. kept_or o (m.shown k)) (other k ne);
      adds = λ k y kt i.
          ⊎_elim
          (λ j. inl (in-below (f k) y (m.may k) j))
          (λ e. ⊎_elim
          (λ (z : k ≡ n). let j = ap g z ∙ here in let v : y ≡ x = cc in inr (z, v, l))
          (λ ne. inl (in_kept (f k) y (m.may k) (sym (other k ne) ∙ e)))
          (cases_eq k n))
          (in-cases (g k) y (m.may k) i);
      calm = record { stays = λ c. c; accepts = λ c _. refl };
      sound = sound-held g m w s;
    }

-- kept sectors go down first
pub then-put : (a b d : Meaning) (n : ℕ) (x : Contents) → Spills a (Ok tt) b → Puts b n x (Ok tt) d → Puts a n x (Ok tt) d
then-put a b d n x s p =
    let z = s.size in
    record {
      answer = record { inside = omega (arith, p.answer.inside); was = s.answer.0; live = p.answer.live; shown = p.answer.shown };
      size = p.size ∙ s.size;
      others = λ k lt ne. p.others k (omega arith) ne ∙ s.shows k lt;
      adds = λ k y lt i.
          ⊎_elim (λ j. inl (s.fewer k y lt j)) (λ j. inr (j.0, j.1, s.answer.0)) (p.adds k y (omega arith) i);
      calm = record { stays = λ c. p.calm.stays (s.calm.stays c); accepts = λ c _. refl };
      sound = p.sound;
    }

no-put-by : (c : Cause) (a b : Meaning) (n : ℕ) (fault : DiskFault) → n < a.size → Stops c b → Refuses c a n fault b
no-put-by Outside a b n fault lt h = absurd h
no-put-by Gone a b n fault lt h = record { inside = lt; lost = h }

-- GET

pub gets_kept : (f : Keeper) (m : Meaning) (n : ℕ) (old new : Contents) → Sound m → AllWhole f → n < m.size → m.live ≡ true → f n ≡ Some new →
    Gets (held f m) n old (Ok tt) (held f m) new
gets_kept f m n old new s w lt l e = record {
  answer = record { inside = lt; was = l; live = l; filled = sym (ap (λ o. kept_or o (m.shown n)) e) };
  size = refl;
  shows = λ k lt. refl;
  fewer = λ k x lt i. i;
  calm = record { stays = λ c. c; accepts = λ c _. refl };
  sound = sound-held f m w s;
}

refused-below : (f : Keeper) (m m' : Meaning) (n : ℕ) (fault : DiskFault) (c : Cause) → Refuses c m n fault m' → Refuses c (held f m) n fault (held f m')
refused-below f m m' n fault Outside h = record { beyond = h.beyond; sector = h.sector; same = ap (held f) h.same }
refused-below f m m' n fault Gone h = record { inside = h.inside; lost = h.lost }

answer-below : (f : Keeper) (m m' : Meaning) (n : ℕ) (old new : Contents) (r : Answer) → f n ≡ None → GetAnswers m n old r m' new → GetAnswers (held f m) n old r (held f m') new
answer-below f m m' n old new (Ok _) e h = record { inside = h.inside; was = h.was; live = h.live; filled = h.filled ∙ sym (ap (λ o. kept_or o (m.shown n)) e) }
answer-below f m m' n old new (Err fault) e h = record { why = refused-below f m m' n fault fault.cause h.why; untouched = h.untouched }

pub gets-below : (f : Keeper) (m m' : Meaning) (n : ℕ) (old mid new : Contents) (r : Answer) → AllWhole f → f n ≡ None → mid ≡ old → Gets m n mid r m' new →
    Gets (held f m) n old r (held f m') new
gets-below f m m' n old mid new r w e is gm =
    let g = subst (λ o. Gets m n o r m' new) is gm in
    record {
      answer = answer-below f m m' n old new r e g.answer;
      size = g.size;
      shows = λ k lt. ap (kept_or (f k)) (g.shows k lt);
      fewer = λ k x lt i. wider (f k) x (m'.may k) (m.may k) (g.fewer k x lt) i;
      calm = record { stays = g.calm.stays; accepts = g.calm.accepts };
      sound = sound-held f m' w g.sound;
    }

-- SETTLE and RESTART, after which nothing is kept

module _ (f : Keeper) (none : (k : ℕ) → f k ≡ None) where
  whole-none : AllWhole f
  whole-none k x e = cc (none k)

  bare : (m : Meaning) (k : ℕ) → kept_or (f k) (m.shown k) ≡ m.shown k
  bare m k = ap (λ o. kept_or o (m.shown k)) (none k)

  under : (m : Meaning) (k : ℕ) (x : Contents) → In x (and_kept (f k) (m.may k)) → In x (m.may k)
  under m k x i = ⊎_elim (λ j. j) (λ e. cc (none k)) (in-cases (f k) x (m.may k) i)

  settled-none : (m : Meaning) → Settled m → Settled (held f m)
  settled-none m s k x lt i = s k x lt (under m k x i) ∙ sym (bare m k)

  stop : (m : Meaning) (c : Cause) → Stops c m → Stops c (held f m)
  stop m Outside e = e
  stop m Gone e = e

  settle-answer : (a m m' : Meaning) (r : Answer) → a.live ≡ true → SettleAnswers m r m' → SettleAnswers a r (held f m')
  settle-answer a m m' (Ok _) l h = record { was = l; live = h.live; settled = settled-none m' h.settled }
  settle-answer a m m' (Err fault) l h = stop m' fault.cause h

  pub settles-below : (a m m' : Meaning) (r : Answer) → Spills a (Ok tt) (held f m) → Settles m r m' → Settles a r (held f m')
  settles-below a m m' r s p =
      let z = s.size in
      record {
        answer = settle-answer a m m' r s.answer.0 p.answer;
        size = p.size ∙ s.size;
        shows = λ k lt. let kt : k < m.size = omega arith in bare m' k ∙ (p.shows k kt ∙ (sym (bare m k) ∙ s.shows k lt));
        fewer = λ k x lt i. let kt : k < m.size = omega arith in s.fewer k x lt (in-below (f k) x (m.may k) (p.fewer k x kt (under m' k x i)));
        calm = record {
          stays = λ c. p.calm.stays (s.calm.stays c);
          accepts = λ c l. p.calm.accepts (s.calm.stays c) s.answer.1;
        };
        sound = sound-held f m' whole-none p.sound;
      }

  restart-answer : (g : Keeper) (m m' : Meaning) (r : Answer) → m'.size ≡ m.size → RestartAnswers m r m' → RestartAnswers (held g m) r (held f m')
  restart-answer g m m' (Ok _) z h = record {
    live = h.live;
    picks = λ k lt. subst (λ x. In x (and_kept (g k) (m.may k))) (sym (bare m' k)) (in-below (g k) (m'.shown k) (m.may k) (h.picks k lt));
    settled = settled-none m' h.settled;
  }
  restart-answer g m m' (Err fault) z h = stop m' fault.cause h

  pub restarts-below : (g : Keeper) (m m' : Meaning) (r : Answer) → Restarts m r m' → Restarts (held g m) r (held f m')
  restarts-below g m m' r p = record {
    answer = restart-answer g m m' r p.size p.answer;
    size = p.size;
    fewer = λ k x lt i. in-below (g k) x (m.may k) (p.fewer k x lt (under m' k x i));
    calm = record { stays = p.calm.stays; accepts = p.calm.accepts };
    sound = sound-held f m' whole-none p.sound;
  }

-- what was kept stands in another table too
pub spills-from : (f g : Keeper) (m b : Meaning) (r : Answer) → ((k : ℕ) → f k ≡ g k) → Spills (held f m) r b → Spills (held g m) r b
spills-from f g m b r is s = record {
  answer = from-answer r s.answer;
  size = s.size;
  shows = λ k lt. s.shows k lt ∙ ap (λ o. kept_or o (m.shown k)) (is k);
  fewer = λ k x lt i. subst (λ o. In x (and_kept o (m.may k))) (is k) (s.fewer k x lt i);
  calm = record { stays = s.calm.stays; accepts = s.calm.accepts };
  sound = s.sound;
}
  where
    from-answer : (a : Answer) → SpillAnswers (held f m) a b → SpillAnswers (held g m) a b
    from-answer (Ok _) h = h
    from-answer (Err fault) h = h

-- a `?` hands the fault on
pub settles-err : (a b : Meaning) (r : Answer) (fault : DiskFault) → r ≡ Err fault → Spills a (Err fault) b → Settles a r b
settles-err a b r fault is s = rw is (record {
  answer = s.answer;
  size = s.size;
  shows = s.shows;
  fewer = s.fewer;
  calm = record { stays = s.calm.stays; accepts = s.calm.accepts };
  sound = s.sound;
})

pub puts-err : (a b : Meaning) (n : ℕ) (x : Contents) (r : Answer) (fault : DiskFault) → r ≡ Err fault → n < a.size → Spills a (Err fault) b → Puts a n x r b
puts-err a b n x r fault is lt s = rw is (record {
  answer = no-put-by fault.cause a b n fault lt s.answer;
  size = s.size;
  others = λ k kt _. s.shows k kt;
  adds = λ k y kt i. inl (s.fewer k y kt i);
  calm = record { stays = s.calm.stays; accepts = λ c due. s.calm.accepts c due.0 };
  sound = s.sound;
})

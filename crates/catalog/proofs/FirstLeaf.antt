-- The level at which p0 leads to no sector any more serves as well as the first leaf's.
use Rattle.std.proofs.Common.{◌≡◌, ℕ, zero, suc, ◌/◌, Bool, true, false, cond, eqb, ◌⊎◌, Ok, Err, Result, sym, refl, ap, ◌∙◌, inl, inr, arith}
use Rattle.std.proofs.lemmas.Bool.{eqb-true}
use Rattle.numbers.specs.Sectors.{address_step, leads}
use Rattle.numbers.proofs.Linking.{leads-says}
use Rattle.layout.specs.Words.{word}
use Rattle.layout.specs.Entries.{count_at, first_at, count_fits}
use Rattle.tree.specs.Tree.{most_levels}
use Rattle.disk.specs.Meaning.{Contents}
use Rattle.catalog.specs.declared.fault.LayoutFault.{LayoutFault}
use Rattle.catalog.specs.declared.fault.LayoutFault.TheVariants.{BadMark, BadCount, BadAddress, BadLevel}
use Rattle.catalog.specs.Catalogs.{range}
use Rattle.catalog.specs.Lays.{root_sector}
use Rattle.catalog.specs.Questions.{Sofar, Step, ask, onward, ◌▸◌, each, at, meet, kind_at, link, first_leaf, leaf_level, ask_page}
use Rattle.catalog.specs.Laws.{last_level, LastLevel}
use Rattle.catalog.proofs.Pages.{item_step, mark_test, level_test, body}

-- two steps refuse, and in the same way
abbrev Both : Result Sofar LayoutFault → Result Sofar LayoutFault → Type 0
Both r q = (x : LayoutFault) × (r ≡ Err x) × (q ≡ Err x)

both-first : (f f' g g' : Step) (st : Sofar) → Both (f st) (f' st) → Both ((f ▸ g) st) ((f' ▸ g') st)
both-first f f' g g' st b = (b.0, ap (onward g) b.1, ap (onward g') b.2)

both-after : (f g g' : Step) → ((st : Sofar) → Both (g st) (g' st)) → (st : Sofar) → Both ((f ▸ g) st) ((f ▸ g') st)
both-after f g g' h st = go (f st)
  where
    go : (r : Result Sofar LayoutFault) → Both (onward g r) (onward g' r)
    go (Ok s) = h s
    go (Err x) = (x, refl, refl)

module _ (size : ℕ) (shown : ℕ → Contents) where
  -- an inner page whose first child is refused in both cases
  body-both : (d e : ℕ) (kid kid' : ℕ → Step) (level s : ℕ) →
      ((st : Sofar) → Both (link size shown true s (word (shown s) first_at) kid st) (link size shown true s (word (shown s) first_at) kid' st)) → (st : Sofar) →
      Both (body size shown d false kid level s st) (body size shown e false kid' level s st)
  body-both d e kid kid' level s h st =
      let m = ask (mark_test size shown s) (BadMark (at s)) ▸ ask (count_fits (kind_at level) false (word (shown s) count_at)) (BadCount (at s)) in
      let l = ask (level_test size shown d false level) (BadLevel (at s)) in
      let k = λ (f : ℕ → Step). link size shown true s (word (shown s) first_at) f in
      let rest = λ (f : ℕ → Step) (st : Sofar). each (λ (i : ℕ). item_step size shown false f s i) (range 0 (word (shown s) count_at)) st in
      both-first (m ▸ l ▸ k kid) (m ▸ l ▸ k kid') (rest kid) (rest kid') st (both-after (m ▸ l) (k kid) (k kid') h st)

  link-bad : (s w : ℕ) (kid kid' : ℕ → Step) → leads size w ≡ false → (st : Sofar) → Both (link size shown true s w kid st) (link size shown true s w kid' st)
  link-bad s w kid kid' e st =
      let a = ask (leads size w) (BadAddress (at s)) in
      let x = w / address_step in
      both-first (a ▸ meet s x) (a ▸ meet s x) (kid x) (kid' x) st (both-first a a (meet s x) (meet s x) st (BadAddress (at s), rw e, rw e))

  link-both : (s w : ℕ) (kid kid' : ℕ → Step) → ((st : Sofar) → Both (kid (w / address_step) st) (kid' (w / address_step) st)) → (st : Sofar) →
      Both (link size shown true s w kid st) (link size shown true s w kid' st)
  link-both s w kid kid' h st = let x = w / address_step in both-after (ask (leads size w) (BadAddress (at s)) ▸ meet s x) (kid x) (kid' x) h st

  not-leads : (w : ℕ) → eqb w 0 ≡ true → leads size w ≡ true → ⊥
  not-leads w e l = let z = eqb-true w 0 e in let p = (leads-says size w l).1 in omega arith

  -- down the p0s the two levels are one, or a page on the way refuses, whatever level a leaf belongs on
  parted : (n m level s : ℕ) → (last_level size shown n level s ≡ first_leaf size shown n level s) ⊎ ((d e : ℕ) (st : Sofar) → Both (ask_page size shown d m level s st) (ask_page size shown e m level s st))
  unfolding last_level first_leaf ask_page
  parted zero m level s = inl refl
  parted (suc n) zero level s = inr (λ d e st. (BadLevel (at s), refl, refl))
  parted (suc n) (suc m) level s = go (eqb w 0) refl (leads size w) refl (parted n m (suc level) (w / address_step))
    where
      w : ℕ
      w = word (shown s) first_at

      Stuck : (leaf : Bool) → Type 0
      Stuck leaf = (d e : ℕ) (st : Sofar) → Both (body size shown d leaf (ask_page size shown d m (suc level)) level s st) (body size shown e leaf (ask_page size shown e m (suc level)) level s st)

      Below : Type 0
      Below = (last_level size shown n (suc level) (w / address_step) ≡ first_leaf size shown n (suc level) (w / address_step))
          ⊎ ((d e : ℕ) (st : Sofar) → Both (ask_page size shown d m (suc level) (w / address_step) st) (ask_page size shown e m (suc level) (w / address_step) st))

      go : (b : Bool) → eqb w 0 ≡ b → (l : Bool) → leads size w ≡ l → Below →
          (cond l (last_level size shown n (suc level) (w / address_step)) level ≡ cond b level (first_leaf size shown n (suc level) (w / address_step))) ⊎ Stuck b
      go true e true k r = absurd (not-leads w e k)
      go true e false k r = inl refl
      go false e true k (inl r) = inl r
      go false e true k (inr r) = inr (λ d e. body-both d e (ask_page size shown d m (suc level)) (ask_page size shown e m (suc level)) level s (link-both s w (ask_page size shown d m (suc level)) (ask_page size shown e m (suc level)) (r d e)))
      go false e false k r = inr (λ d e. body-both d e (ask_page size shown d m (suc level)) (ask_page size shown e m (suc level)) level s (link-bad s w (ask_page size shown d m (suc level)) (ask_page size shown e m (suc level)) k))

pub serves : LastLevel
serves size shown s = go (parted size shown most_levels 5 1 root_sector)
  where
    go : (last_level size shown most_levels 1 root_sector ≡ leaf_level size shown) ⊎ ((d e : ℕ) (st : Sofar) → Both (ask_page size shown d 5 1 root_sector st) (ask_page size shown e 5 1 root_sector st)) →
        ask_page size shown (last_level size shown most_levels 1 root_sector) 5 1 root_sector s ≡ ask_page size shown (leaf_level size shown) 5 1 root_sector s
    go (inl e) = ap (λ (z : ℕ). ask_page size shown z 5 1 root_sector s) e
    go (inr h) = let b = h (last_level size shown most_levels 1 root_sector) (leaf_level size shown) s in b.1 ∙ sym b.2

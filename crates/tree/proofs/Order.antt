-- What the proofs use of an order of names.
use Rattle.std.proofs.Common.{◌≡◌, ap, ◌∙◌}
use Rattle.numbers.specs.Order.{Cmp, below, same, above, turn, IsOrder}

module _ {K : Type 0} (cmp : K → K → Cmp) (ord : IsOrder K cmp) where
  pub flip : (a b : K) → cmp a b ≡ below → cmp b a ≡ above
  flip a b h = ord.turned a b ∙ ap turn h

  pub flip' : (a b : K) → cmp a b ≡ above → cmp b a ≡ below
  flip' a b h = ord.turned a b ∙ ap turn h

  pub flip-same : (a b : K) → cmp a b ≡ same → cmp b a ≡ same
  flip-same a b h = ord.turned a b ∙ ap turn h

  -- a is below e, and x is not: so x is above a
  pub above_same : (a e x : K) → cmp a e ≡ below → cmp x e ≡ same → cmp x a ≡ above
  above_same a e x h s = ord.alike x e a s ∙ flip a e h

  pub above-above : (a e x : K) → cmp a e ≡ below → cmp x e ≡ above → cmp x a ≡ above
  above-above a e x h s = flip a x (ord.carried a e x h (flip' x e s))

-- Contents that are among those allowed, and counting the sectors whose contents are not.
use Rattle.std.proofs.Common.{◌≡◌, ℕ, zero, suc, ◌+◌, ◌<◌, Bool, true, cond, List, [], ◌∷◌, refl, sym, inl, inr, add-one, arith}
use Rattle.std.proofs.lemmas.Bool.{or_left, or_right}
use Rattle.std.proofs.lemmas.Slice.Eq.{bytes_eq-Decides}
use Rattle.std.specs.Str.{bytes_eq}
use Rattle.disk.specs.Meaning.{Contents, In}
use Rattle.trial.specs.Leaves.{among, failing}

pub in-among : (x : Contents) (xs : List Contents) → In x xs → among x xs ≡ true
in-among x [] i = absurd i
in-among x (y ∷ ys) (inl e) = or_left (bytes_eq y x) (among x ys) ((bytes_eq-Decides y x).1 (sym e))
in-among x (y ∷ ys) (inr i) = or_right (bytes_eq y x) (among x ys) (in-among x ys i)

pub failing-none : (n : ℕ) (test : ℕ → Bool) → ((k : ℕ) → k < n → test k ≡ true) → failing n test ≡ 0
failing-none zero test h = refl
failing-none (suc n) test h =
    rw (failing-none n test (λ k lt. h k (omega arith)), h n (omega arith))

-- one sector more
pub failing-more : (n : ℕ) (test : ℕ → Bool) (b : Bool) → test n ≡ b → failing (n + 1) test ≡ failing n test + cond b 0 1
failing-more n test b e = rw (add-one n, e)

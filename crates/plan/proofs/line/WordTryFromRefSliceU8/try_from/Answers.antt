use Rattle.std.proofs.Common.{rules, ◌≡◌, ℕ, ◌+◌, ◌<◌, List, ◌∷◌, length, get_or, drop, codes, arith, ◌∙◌, refl}
use Rattle.std.proofs.lemmas.List.{drop_more, drop_all}
use Rattle.plan.proofs.line.WordTryFromRefSliceU8.try_from.Goals as goal

-- one element more of what is left
more : (s : List ℕ) (i x : ℕ) (xs : List ℕ) → i < length s → get_or s i 0 ≡ x → drop (i + 1) s ≡ xs → drop i s ≡ x ∷ xs
more s i x xs h e r = drop_more s i 0 h ∙ (λ k. e k ∷ r k)

pub returns-in-SETTLE : goal.returns-in-SETTLE
returns-in-SETTLE c =
    let s = c.args.s.now in
    let r : drop 6 s ≡ codes "" = drop_all 6 s (omega arith) in
    let r : drop 5 s ≡ codes "E" = more s 5 69 _ (omega arith) (search rules) r in
    let r : drop 4 s ≡ codes "LE" = more s 4 76 _ (omega arith) (search rules) r in
    let r : drop 3 s ≡ codes "TLE" = more s 3 84 _ (omega arith) (search rules) r in
    let r : drop 2 s ≡ codes "TTLE" = more s 2 84 _ (omega arith) (search rules) r in
    let r : drop 1 s ≡ codes "ETTLE" = more s 1 69 _ (omega arith) (search rules) r in
    let r : s ≡ codes "SETTLE" = more s 0 83 _ (omega arith) (search rules) r in
    rw r refl

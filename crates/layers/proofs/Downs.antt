-- What a hold does, over what the disk below it does.
use Rattle.std.proofs.Common.{◌≡◌, ℕ, ◌<◌, List, [], length, IsErrAnd, None, Ok, Err, Result, OnOk, OnErr, refl, ap, ◌∙◌, arith}
use Rattle.std.proofs.lemmas.Result.{err_from_is_err_and}
use Rattle.disk.specs.declared.fault.Cause.TheVariants.{Gone}
use Rattle.disk.specs.declared.fault.DiskFault.{DiskFault}
use Rattle.disk.specs.Rules.{Answer}
use Rattle.layers.specs.declared.kept.Kept.{Kept}
use Rattle.layers.specs.Rows.{at, Without}
use Rattle.layers.proofs.Holds.{LetsGo}
use Rattle.layers.specs.Holding.{Follows, Refused}

-- what a `?` hands on
pub err-is : (r : Answer) (f : DiskFault) → IsErrAnd r (λ e. e ≡ f) → r ≡ Err f
err-is r f h = let p = err_from_is_err_and r h in p.1 ∙ ap Err p.2

pub nothing-at : (s : List Kept) → s ≡ [] → (k : ℕ) → at s k ≡ None
nothing-at s e k = ap (λ l. at l k) e

-- with room there is no refusal to keep
pub kept-with : {E W : Type 0} (s : List Kept) (r : Result Unit E) → length s < 16 → OnErr r (length s ≡ 16) → OnOk r W → W
kept-with s (Ok _) lt err ok = ok
kept-with s (Err _) lt err ok = absurd (omega arith)

pub follows-told : (r : Answer) (y : Kept) (s s' : List Kept) → LetsGo r → Without s y.sector s' → Follows r y s (Ok tt) s'
follows-told (Ok _) y s s' h w = (refl, w)
follows-told (Err f) y s s' h w = rw h (refl, w)

pub refused-gone : (f : DiskFault) (y : Kept) (s : List Kept) → f.cause ≡ Gone → Refused f.cause f y s (Err f) s
refused-gone f y s is = rw is (refl, refl)

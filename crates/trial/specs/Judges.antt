-- What a judge knows of the contents of a sector.
use Rattle.std.specs.Prelude.{◌≡◌, List}
use Rattle.disk.specs.Meaning.{Contents}
use Rattle.trial.specs.declared.judge.Judged.{Judged}
use Rattle.trial.specs.Leaves.{newest, among}

-- inner: where xs are allowed, the newest first, j tells whether x is the newest, and whether it is among them
abbrev pub Knows : Judged → Contents → List Contents → Type 0
Knows j x xs = (j.newest ≡ among x (newest xs)) × (j.allowed ≡ among x xs)

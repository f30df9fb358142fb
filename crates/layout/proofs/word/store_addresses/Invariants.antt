use Rattle.std.proofs.Common.{◌≡◌, take}
use Rattle.layout.specs.Words.{stored_all, written, numbers}
use Rattle.layout.proofs.word.store_addresses.Given as goal

abbrev pub invariant-loop-i : goal.invariant-loop-i
invariant-loop-i l = l.sector ≡ written l.initial.sector l.at (stored_all (numbers (take l.i l.list)))

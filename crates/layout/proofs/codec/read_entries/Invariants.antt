use Rattle.std.proofs.Common.{◌≡◌, ◌-◌, length}
use Rattle.layout.specs.Pages.{rows_in}
use Rattle.layout.proofs.Paging.{onto}
use Rattle.layout.proofs.codec.read_entries.Given as goal

abbrev pub invariant-loop-i : goal.invariant-loop-i
invariant-loop-i l =
    (rows_in l.size l.leaf l.sector 0 l.count ≡ onto l.entries (rows_in l.size l.leaf l.sector l.i (l.count - l.i)))
    × (length l.entries ≡ l.i)

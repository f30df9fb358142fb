use Rattle.std.proofs.Common.{◌≡◌, ◌*◌, length, take}
use Rattle.layout.specs.Words.{written}
use Rattle.layout.specs.Entries.{entries_at, entry_size, all_entry_bytes}
use Rattle.layout.proofs.page.Page.put_entries.Given as goal

abbrev pub invariant-loop-i : goal.invariant-loop-i
invariant-loop-i l =
    (l.sector ≡ written l.initial.sector entries_at (all_entry_bytes (take l.i l.entry-items)))
    × (length (all_entry_bytes (take l.i l.entry-items)) ≡ entry_size * l.i)

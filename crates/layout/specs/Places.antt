-- The places for entries of a page in memory.
use Rattle.std.specs.Prelude.{◌-◌, List, ◌++◌, length, replicate, None}
use Rattle.layout.specs.declared.entry.Entry.{Entry}

-- what stands in a place that holds no entry
abbrev pub no_entry : Entry
no_entry = record { name = record { bytes = replicate 32 0 }; file = record { 0 = 0 }; below = None }

-- the 25 places: the entries, and no entry in those behind them
abbrev pub in_places : List Entry → List Entry
in_places es = es ++ replicate (25 - length es) no_entry

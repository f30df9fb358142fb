-- What a refusal of a volume that is read prints, in plain words.
use Rattle.std.specs.Prelude.{ℕ, List, ◌++◌, Some, None, Option, codes, decimal}
use Rattle.numbers.specs.declared.sector.Sector.{Sector}
use Rattle.disk.specs.Texts.{fault_text}
use Rattle.catalog.specs.declared.fault.LayoutFault.{LayoutFault}
use Rattle.catalog.specs.declared.fault.LayoutFault.TheVariants.{BadSize, BadMark, BadCount, BadAddress, MetBefore, BadLevel, BadEntry, BadLength}
use Rattle.catalog.specs.declared.fault.VolumeFault.{VolumeFault}
use Rattle.catalog.specs.declared.fault.VolumeFault.TheVariants.{Disk, Layout}
use Rattle.catalog.specs.Faults.{layout_sector}

-- what is wrong
abbrev pub layout_fault_words : LayoutFault → List ℕ
layout_fault_words BadSize = codes "the card does not have 3 to 16384 sectors"
layout_fault_words (BadMark s) = codes "the mark is wrong, or bytes that should be zero are not"
layout_fault_words (BadCount s) = codes "the number of entries is out of range"
layout_fault_words (BadAddress s) = codes "an address leads to no sector of the card, or is not the one that should stand there"
layout_fault_words (MetBefore s) = codes "an address leads to a sector that is in use already"
layout_fault_words (BadLevel s) = codes "the page is more than four levels down, or a leaf that is not level with the first one"
layout_fault_words (BadEntry s) = codes "a name is not a good one, or not above the name before it"
layout_fault_words (BadLength s) = codes "the length of the file is out of range"

-- and where, as in "sector 7: the number of entries is out of range"
abbrev pub located : Option Sector → List ℕ → List ℕ
located None what = what
located (Some s) what = codes "sector " ++ (decimal s.0 ++ (codes ": " ++ what))

abbrev pub layout_fault_text : LayoutFault → List ℕ
layout_fault_text e = located (layout_sector e) (layout_fault_words e)

abbrev pub volume_fault_text : VolumeFault → List ℕ
volume_fault_text (Disk f) = codes "the card did not answer: " ++ fault_text f
volume_fault_text (Layout e) = layout_fault_text e

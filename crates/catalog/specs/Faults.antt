-- The refusals of a volume that is read, with the number and the values of each stated case by case.
use Rattle.std.specs.Prelude.{ℕ, Some, None, Option}
use Rattle.numbers.specs.declared.sector.Sector.{Sector}
use Rattle.disk.specs.declared.fault.DiskFault.{DiskFault}
use Rattle.catalog.specs.declared.fault.LayoutFault.{LayoutFault}
use Rattle.catalog.specs.declared.fault.LayoutFault.TheVariants.{BadSize, BadMark, BadCount, BadAddress, MetBefore, BadLevel, BadEntry, BadLength}
use Rattle.catalog.specs.declared.fault.VolumeFault.{VolumeFault}
use Rattle.catalog.specs.declared.fault.VolumeFault.TheVariants.{Disk, Layout}

abbrev pub layout_number : LayoutFault → ℕ
layout_number BadSize = 1
layout_number (BadMark s) = 11
layout_number (BadCount s) = 12
layout_number (BadAddress s) = 13
layout_number (MetBefore s) = 14
layout_number (BadLevel s) = 15
layout_number (BadEntry s) = 16
layout_number (BadLength s) = 17

-- the sector that held what was asked
abbrev pub layout_sector : LayoutFault → Option Sector
layout_sector BadSize = None
layout_sector (BadMark s) = Some s
layout_sector (BadCount s) = Some s
layout_sector (BadAddress s) = Some s
layout_sector (MetBefore s) = Some s
layout_sector (BadLevel s) = Some s
layout_sector (BadEntry s) = Some s
layout_sector (BadLength s) = Some s

abbrev pub volume_number : VolumeFault → ℕ
volume_number (Disk f) = 3
volume_number (Layout e) = layout_number e

-- what a refusal carries beside its number
pub data Values : Type 0 where
  nothing : Values
  at_sector : Sector → Values
  of_disk : DiskFault → Values

abbrev pub sector_value : Option Sector → Values
sector_value None = nothing
sector_value (Some s) = at_sector s

abbrev pub volume_values : VolumeFault → Values
volume_values (Disk f) = of_disk f
volume_values (Layout e) = sector_value (layout_sector e)

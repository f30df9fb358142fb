-- The refusals of the store's calls, with the number and the values of each stated case by case.
use Rattle.std.specs.Prelude.{ℕ, Bool, is_some, Some, None, Option}
use Rattle.disk.specs.declared.fault.DiskFault.{DiskFault}
use Rattle.catalog.specs.declared.fault.LayoutFault.{LayoutFault}
use Rattle.catalog.specs.declared.fault.VolumeFault.{VolumeFault}
use Rattle.catalog.specs.declared.fault.VolumeFault.TheVariants.{Disk, Layout}
use Rattle.catalog.specs.Faults.{volume_number, volume_values, Values, nothing}
use Rattle.promise.specs.declared.fault.FileFault.{FileFault}
use Rattle.promise.specs.declared.fault.FileFault.TheVariants.{Volume, Waiting, BadName, BadSlot, Absent, Full, Nameless, TooLong, NoRoom}

abbrev pub number : FileFault → ℕ
number (Volume v) = volume_number v
number Waiting = 2
number BadName = 4
number BadSlot = 5
number Absent = 6
number Full = 7
number Nameless = 8
number TooLong = 9
number NoRoom = 10

-- what a refusal carries beside its number
abbrev pub values : FileFault → Values
values (Volume v) = volume_values v
values Waiting = nothing
values BadName = nothing
values BadSlot = nothing
values Absent = nothing
values Full = nothing
values Nameless = nothing
values TooLong = nothing
values NoRoom = nothing

-- the disk did not answer
abbrev pub by_disk : DiskFault → FileFault
by_disk f = Volume (Disk f)

-- what the disk holds keeps no layout, or its size is wrong
abbrev pub by_layout : LayoutFault → FileFault
by_layout e = Volume (Layout e)

-- the fault of the disk that a refusal carries
abbrev pub volume_fault : VolumeFault → Option DiskFault
volume_fault (Disk f) = Some f
volume_fault (Layout e) = None

abbrev pub disk_fault : FileFault → Option DiskFault
disk_fault (Volume v) = volume_fault v
disk_fault Waiting = None
disk_fault BadName = None
disk_fault BadSlot = None
disk_fault Absent = None
disk_fault Full = None
disk_fault Nameless = None
disk_fault TooLong = None
disk_fault NoRoom = None

-- is it a 3?
abbrev pub is_three : FileFault → Bool
is_three r = is_some (disk_fault r)

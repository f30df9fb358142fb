-- The two refusals of a disk, with what each carries.
use Rattle.std.specs.Prelude.{ℕ}
use Rattle.disk.specs.declared.fault.Layer.{Layer}
use Rattle.disk.specs.declared.fault.Cause.TheVariants.{Outside, Gone}
use Rattle.disk.specs.declared.fault.DiskFault.{DiskFault}

-- a layer of this kind has no sector n
abbrev pub outside : Layer → ℕ → DiskFault
outside l n = record { layer = l; cause = Outside; sector = n }

-- a layer of this kind, asked for sector n there (0 for a settle or a restart), does not answer
abbrev pub gone : Layer → ℕ → DiskFault
gone l n = record { layer = l; cause = Gone; sector = n }

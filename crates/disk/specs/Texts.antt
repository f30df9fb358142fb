-- What the parts of a refusal print as.
use Rattle.std.specs.Prelude.{ℕ, List, ◌++◌, codes, decimal}
use Rattle.disk.specs.declared.fault.Layer.{Layer}
use Rattle.disk.specs.declared.fault.Layer.TheVariants.{Image, Hold, Fuse}
use Rattle.disk.specs.declared.fault.Cause.{Cause}
use Rattle.disk.specs.declared.fault.Cause.TheVariants.{Outside, Gone}
use Rattle.disk.specs.declared.fault.DiskFault.{DiskFault}

-- the name of a kind of disk
abbrev pub layer_text : Layer → List ℕ
layer_text Image = codes "image"
layer_text Hold = codes "hold"
layer_text Fuse = codes "fuse"

-- the name of a cause
abbrev pub cause_text : Cause → List ℕ
cause_text Outside = codes "outside"
cause_text Gone = codes "gone"

-- a refusal: its cause, its kind of disk and its sector, as in "gone fuse 16"
abbrev pub fault_text : DiskFault → List ℕ
fault_text f = cause_text f.cause ++ (codes " " ++ (layer_text f.layer ++ (codes " " ++ decimal f.sector)))

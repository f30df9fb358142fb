-- What each refusal of a line tells.
use Rattle.std.specs.Prelude.{ℕ, List, codes}
use Rattle.plan.specs.declared.fault.LineFault.{LineFault}
use Rattle.plan.specs.declared.fault.LineFault.TheVariants as fault

abbrev pub message_of : LineFault → List ℕ
message_of fault.Word = codes "SIZE, PUT or SETTLE is expected"
message_of fault.Fields = codes "a field is missing, or there is one too many"
message_of fault.Number = codes "a number of 1 to 7 digits is expected"
message_of fault.SizeMissing = codes "the first line has to be SIZE"
message_of fault.SizeAgain = codes "SIZE stands a second time"
message_of fault.SizeRange = codes "SIZE is from 1 to 16384"
message_of fault.Sector = codes "the sector is not below SIZE"
message_of fault.Text = codes "a text has at most 1024 bytes, from space to tilde"
message_of fault.Memory = codes "there is no memory for the plan"

-- What a call of the store asks of its disk: the disk's own calls one after another, each accepted, or the last one refused with the fault
-- that the call answers, unchanged.
use Rattle.std.specs.Prelude.{Bool, true, false, Some, None, Ok, Err, Option, ◌≢◌}
use Rattle.disk.specs.declared.fault.DiskFault.{DiskFault}
use Rattle.disk.specs.Rules.{Answer as DiskAnswer, Request}
use Rattle.disk.specs.Rules.Request.{restarting}
use Rattle.promise.specs.Table.{Answer, Done, Slotted, Riding, HasRead, Wrote, Named, No, NoRead, NoNames}
use Rattle.promise.specs.Faults.{disk_fault}

-- the disk's fault in an answer
abbrev pub fault_in : Answer → Option DiskFault
fault_in Done = None
fault_in (Slotted s) = None
fault_in (Riding r) = None
fault_in (HasRead k r b) = None
fault_in (Wrote n r) = None
fault_in (Named n rs) = None
fault_in (No r) = disk_fault r
fault_in (NoRead f k r b) = Some f
fault_in (NoNames f k rs) = Some f

-- does: what the disk does (the trait's own)
module _ {D : Type 0} (does : D → Request → DiskAnswer → D → Type 0) where
  -- every call but Start: no restart
  pub data Asked : D → Option DiskFault → D → Type 0 where
    none : {d : D} → Asked d None d
    more : {d e d' : D} {f : Option DiskFault} (q : Request) → q ≢ restarting → does d q (Ok tt) e → Asked e f d' → Asked d f d'
    refused : {d d' : D} {f : DiskFault} (q : Request) → q ≢ restarting → does d q (Err f) d' → Asked d (Some f) d'

  -- Start: one restart, before all else; none where question 1, the size, has a no
  pub data Restarted : Bool → D → Option DiskFault → D → Type 0 where
    unasked : {d : D} → Restarted false d None d
    lost : {d d' : D} {f : DiskFault} → does d restarting (Err f) d' → Restarted true d (Some f) d'
    then' : {d e d' : D} {f : Option DiskFault} → does d restarting (Ok tt) e → Asked e f d' → Restarted true d f d'

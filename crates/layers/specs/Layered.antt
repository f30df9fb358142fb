-- What any layer can do with a request: answer it by itself, or hand it on.
-- s is what the layer is to have in memory after the request and s' what it has, d and d' are the disk below it before and after.
use Rattle.std.specs.Prelude.{◌≡◌, Err}
use Rattle.disk.specs.declared.fault.DiskFault.{DiskFault}
use Rattle.disk.specs.Rules.{Answer, Request}

-- it answers this fault by itself, nothing is asked below, and its memory is s
pub record Itself {S D : Type 0} (f : DiskFault) (s : S) (d : D) (r : Answer) (s' : S) (d' : D) : Type 0 where
  pub answer : r ≡ Err f
  pub memory : s' ≡ s
  pub below : d' ≡ d

-- it hands the request on, the answer is the one from below, and its memory is s
pub record HandsOn {S D : Type 0} (does : D → Request → Answer → D → Type 0) (q : Request) (s : S) (d : D) (r : Answer) (s' : S) (d' : D) : Type 0 where
  pub asked : does d q r d'
  pub memory : s' ≡ s

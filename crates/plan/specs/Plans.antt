-- What a plan becomes with one line more.
use Rattle.std.specs.Prelude.{◌≡◌, ℕ, ◌≤◌, cond, ◌&&◌, List, [], ◌∷◌, ◌++◌, length, drop, replicate, Some, None, Ok, Err, vec_items, vec_len, vec_capacity, Option, Result, nat_le, nat_lt}
use Rattle.plan.specs.declared.fault.LineFault.{LineFault}
use Rattle.plan.specs.declared.fault.LineFault.TheVariants as fault
use Rattle.plan.specs.declared.step.Step.{Step}
use Rattle.plan.specs.declared.step.Step.TheVariants.{Put, Settle}
use Rattle.plan.specs.declared.reader.Plan.{Plan}
use Rattle.plan.specs.Lines.{Said, printable}
use Rattle.plan.specs.Lines.Said.{size, put, settle, refused}

-- a sector of zeros
unfoldable pub blank : List ℕ
blank = replicate 1024 0

-- a sector that starts with this text and is zero after it
abbrev pub filled : List ℕ → List ℕ
filled t = t ++ drop (length t) blank

-- what a line does to a plan: it sets the size, adds a step, or is refused
pub data Took : Type 0 where
  sized : ℕ → Took
  stepped : Step → Took
  turned : LineFault → Took

-- SIZE comes first, once, and is from 1 to 16,384; a sector is below it; a text has at most 1,024 printable bytes
abbrev pub took : Option ℕ → Said → Took
took None (size n) = cond (nat_le 1 n && nat_le n 16384) (sized n) (turned fault.SizeRange)
took None (put n t) = turned fault.SizeMissing
took None settle = turned fault.SizeMissing
took None (refused f) = turned f
took (Some m) (size n) = turned fault.SizeAgain
took (Some m) (put n t) = cond (nat_lt n m) (cond (nat_le (length t) 1024 && printable t) (stepped (Put n (filled t))) (turned fault.Text)) (turned fault.Sector)
took (Some m) settle = stepped Settle
took (Some m) (refused f) = turned f

-- one step more, or a refusal for want of memory: the steps fill all the memory that was got for them
abbrev pub Adds : Plan → Step → Result Unit LineFault → Plan → Type 0
Adds p s (Ok _) p' = (p'.size ≡ p.size) × (vec_items p'.steps ≡ vec_items p.steps ++ (s ∷ []))
Adds p s (Err f) p' = (f ≡ fault.Memory) × (vec_capacity p.steps ≤ vec_len p.steps) × (p'.size ≡ p.size) × (vec_items p'.steps ≡ vec_items p.steps)

-- a plan p with a line that does this answers r and is p'
abbrev pub Reads : Took → Plan → Result Unit LineFault → Plan → Type 0
Reads (sized n) p r p' = (r ≡ Ok tt) × (p'.size ≡ Some n) × (vec_items p'.steps ≡ vec_items p.steps)
Reads (stepped s) p r p' = Adds p s r p'
Reads (turned f) p r p' = (r ≡ Err f) × (p'.size ≡ p.size) × (vec_items p'.steps ≡ vec_items p.steps)

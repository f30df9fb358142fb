-- What a line of a plan says.
use Rattle.std.specs.Prelude.{ℕ, Bool, cond, ◌&&◌, List, Some, None, Ok, Err, codes, Option, Result, nat_le}
use Rattle.std.specs.List.{list_all}
use Rattle.std.specs.Str.{bytes_eq}
use Rattle.fields.specs.Fields.{parted, field, rest, number_of}
use Rattle.plan.specs.declared.fault.LineFault.{LineFault}
use Rattle.plan.specs.declared.fault.LineFault.TheVariants as fault
use Rattle.plan.specs.declared.line.Line.{Line}
use Rattle.plan.specs.declared.line.Line.TheVariants as line
use Rattle.plan.specs.declared.line.Word.{Word}
use Rattle.plan.specs.declared.line.Word.TheVariants as word

-- a size; a text for a sector; settle; or no line of a plan
pub data Said : Type 0 where
  size : ℕ → Said
  put : ℕ → List ℕ → Said
  settle : Said
  refused : LineFault → Said

-- space (byte 32) to tilde (126)
abbrev pub printable : List ℕ → Bool
printable = list_all (λ b. nat_le 32 b && nat_le b 126)

-- the word that these bytes are, or the refusal of what is none
abbrev pub word_of : List ℕ → Result Word LineFault
word_of s =
    cond (bytes_eq s (codes "SIZE")) (Ok word.Size) (cond (bytes_eq s (codes "PUT")) (Ok word.Put) (cond (bytes_eq s (codes "SETTLE")) (Ok word.Settle) (Err fault.Word)))

-- SIZE,n
abbrev pub size_is : Option ℕ → Said
size_is None = refused fault.Number
size_is (Some n) = size n

abbrev pub size_of : List ℕ → Said
size_of s = size_is (number_of s)

-- PUT,n,text, where the text runs to the end of the line
abbrev pub put_is : Option ℕ → List ℕ → Said
put_is None t = refused fault.Number
put_is (Some n) t = put n t

abbrev pub put_of : List ℕ → Said
put_of s = cond (parted s) (put_is (number_of (field s)) (rest s)) (refused fault.Fields)

-- a word before a comma, and a word alone
abbrev pub after : Result Word LineFault → List ℕ → Said
after (Ok word.Size) s = size_of s
after (Ok word.Put) s = put_of s
after (Ok word.Settle) s = refused fault.Fields
after (Err f) s = refused f

abbrev pub alone : Result Word LineFault → Said
alone (Ok word.Size) = refused fault.Fields
alone (Ok word.Put) = refused fault.Fields
alone (Ok word.Settle) = settle
alone (Err f) = refused f

abbrev pub said : List ℕ → Said
said s = cond (parted s) (after (word_of (field s)) (rest s)) (alone (word_of s))

-- what a parsed line tells
abbrev pub told : Result Line LineFault → Said
told (Ok (line.Size n)) = size n
told (Ok (line.Put n t)) = put n t.now
told (Ok line.Settle) = settle
told (Err f) = refused f

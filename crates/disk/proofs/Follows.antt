-- What follows from the rules for any disk.
use Rattle.std.proofs.Common.{◌≡◌, ℕ, ◌<◌, ◌≤◌, false, Ok, Err, refl, subst, arith}
use Rattle.std.proofs.lemmas.Bool.{both_ways}
use Rattle.disk.specs.declared.fault.Cause.{Cause}
use Rattle.disk.specs.declared.fault.Cause.TheVariants.{Outside, Gone}
use Rattle.disk.specs.declared.fault.DiskFault.{DiskFault}
use Rattle.disk.specs.Meaning.{Contents, Meaning, In}
use Rattle.disk.specs.Rules.{Answer, GetAnswers, Puts, PutAnswers, SettleAnswers, Refuses, Stops}
use Rattle.disk.specs.Laws.{Says, Follows}

beyond : (c : Cause) (m m' : Meaning) (n : ℕ) (f : DiskFault) → Refuses c m n f m' → m.size ≤ n → c ≡ Outside
beyond Outside m m' n f h ge = refl
beyond Gone m m' n f h ge = absurd (omega arith)

within : (c : Cause) (m m' : Meaning) (n : ℕ) (f : DiskFault) → Refuses c m n f m' → n < m.size → c ≡ Gone
within Outside m m' n f h lt = absurd (omega arith)
within Gone m m' n f h lt = refl

stopped : (c : Cause) (m' : Meaning) → Stops c m' → c ≡ Gone
stopped Outside m' h = absurd h
stopped Gone m' h = refl

get-outside : (m m' : Meaning) (n : ℕ) (old new : Contents) (r : Answer) → GetAnswers m n old r m' new → m.size ≤ n → Says Outside r
get-outside m m' n old new (Ok u) h ge = absurd (omega arith)
get-outside m m' n old new (Err f) h ge = beyond f.cause m m' n f h.why ge

put-outside : (m m' : Meaning) (n : ℕ) (x : Contents) (r : Answer) → PutAnswers m n x r m' → m.size ≤ n → Says Outside r
put-outside m m' n x (Ok u) h ge = absurd (omega arith)
put-outside m m' n x (Err f) h ge = beyond f.cause m m' n f h ge

get-gone : (m m' : Meaning) (n : ℕ) (old new : Contents) (r : Answer) → GetAnswers m n old r m' new → n < m.size → m.live ≡ false → Says Gone r
get-gone m m' n old new (Ok u) h lt off = absurd (both_ways m.live off h.was)
get-gone m m' n old new (Err f) h lt off = within f.cause m m' n f h.why lt

put-gone : (m m' : Meaning) (n : ℕ) (x : Contents) (r : Answer) → PutAnswers m n x r m' → n < m.size → m.live ≡ false → Says Gone r
put-gone m m' n x (Ok u) h lt off = absurd (both_ways m.live off h.was)
put-gone m m' n x (Err f) h lt off = within f.cause m m' n f h lt

settle-gone : (m m' : Meaning) (r : Answer) → SettleAnswers m r m' → m.live ≡ false → Says Gone r
settle-gone m m' (Ok u) h off = absurd (both_ways m.live off h.was)
settle-gone m m' (Err f) h off = stopped f.cause m' h

added-in : (m m' : Meaning) (n : ℕ) (x : Contents) → Puts m n x (Ok tt) m' → In x (m'.may n)
added-in m m' n x p =
    let a = p.answer in
    subst (λ y. In y (m'.may n)) a.shown (p.sound.shows a.live n (omega arith))

pub follows : Follows
follows = record {
  get_outside = λ m m' n old new r g. get-outside m m' n old new r g.answer;
  put_outside = λ m m' n x r p. put-outside m m' n x r p.answer;
  get_gone = λ m m' n old new r g. get-gone m m' n old new r g.answer;
  put_gone = λ m m' n x r p. put-gone m m' n x r p.answer;
  settle_gone = λ m m' r p. settle-gone m m' r p.answer;
  untouched = λ m m' n old new f g. g.answer.untouched;
  added = added-in;
}

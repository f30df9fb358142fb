-- Down to the first leaf.
use Rattle.std.proofs.Common.{◌≡◌, ℕ, suc, ◌+◌, ◌-◌, ◌/◌, ◌%◌, ◌<◌, ◌≤◌, Bool, true, false, cond, eqb, MatchOption, Some, None, Ok, Err, Option, sym, refl, ap, ◌∙◌, subst, arith}
use Rattle.std.proofs.lemmas.Bool.{cond-true, cond-false, and_parts, ltb-true}
use Rattle.disk.specs.declared.fault.DiskFault.{DiskFault}
use Rattle.disk.specs.Meaning.{Contents, Meaning}
use Rattle.disk.specs.Rules.{Answer, Request, Gets}
use Rattle.disk.specs.Rules.Request.{getting}
use Rattle.numbers.specs.declared.sector.Sector.{Sector}
use Rattle.numbers.specs.Sectors.{address_step, leads, sector_at}
use Rattle.layout.specs.Words.{sector_size, word_size, word}
use Rattle.layout.specs.Entries.{first_at}
use Rattle.catalog.specs.declared.fault.VolumeFault.TheVariants.{Disk}
use Rattle.catalog.specs.Laws.{last_level}
use Rattle.catalog.specs.Lays.{root_sector}
use Rattle.tree.specs.Tree.{most_levels}
use Rattle.survey.specs.Reads.{Reads, ReadOnly}
use Rattle.survey.specs.Reads.Reads.{more}
use Rattle.survey.specs.Asks.{Levelled}
use Rattle.survey.proofs.Tellings.{read-same, read-then, read-got, leaves-then, faults, gone-inside}

-- so far down, on level and at page s: m was the disk before, m' it is now
pub record Down (m m' : Meaning) (level s : ℕ) : Type 0 where
  pub read : ReadOnly m m'
  pub live : m.live ≡ true → m'.live ≡ true
  pub was : m'.live ≡ true → m.live ≡ true
  pub on : 1 < level → m'.live ≡ true
  pub low : 1 ≤ level
  pub inside : s < m.size
  pub same : last_level m.size m.shown most_levels 1 root_sector ≡ last_level m.size m.shown (5 - level) level s

pub down_start : (m : Meaning) → 1 < m.size → Down m m 1 1
down_start m l = record { read = read-same m; live = λ p. p; was = λ p. p; on = λ h. absurd (omega arith); low = omega arith; inside = l; same = refl }

-- an address that leads to a sector, and one that does not
led_to : (size a : ℕ) (n : Sector) (b : Bool) → b ≡ leads size a → Some n ≡ cond b (Some (record { 0 = a / address_step })) None → (leads size a ≡ true) × (n.0 ≡ a / address_step) × (n.0 < size)
led_to size a n true f e =
    let m : n ≡ record { 0 = a / address_step } = cc in
    let q : n.0 ≡ a / address_step = ap (λ (y : Sector). y.0) m in
    let p = and_parts _ _ (and_parts (eqb (a % address_step) 0) _ (sym f)).1 in
    (sym f, q, subst (λ (z : ℕ). z < size) (sym q) (ltb-true (a / address_step) size p.1))
led_to size a n false f e = cc

led_none : (size a : ℕ) (n : Sector) (b : Bool) → b ≡ leads size a → None ≡ cond b (Some n) None → leads size a ≡ false
led_none size a n true f e = cc
led_none size a n false f e = sym f

module _ {m m' m'' : Meaning} {level n s : ℕ} {old new : Contents} (h : Down m m' level s) (few : level ≤ most_levels) (g : Gets m' n old (Ok tt) m'' new) (e : n ≡ s) where
  here : new ≡ m.shown s
  here = g.answer.filled ∙ ap m'.shown e ∙ h.read.shows s h.inside

  step : (a : ℕ) → a ≡ word new first_at → last_level m.size m.shown (5 - level) level s ≡ cond (leads m.size a) (last_level m.size m.shown (4 - level) (suc level) (a / address_step)) level
  unfolding last_level
  step a f =
      let i : 5 - level ≡ suc (4 - level) = omega arith in
      let q : word (m.shown s) first_at ≡ a = sym (f ∙ ap (λ (c : Contents). word c first_at) here) in
      ap (λ (z : ℕ). last_level m.size m.shown z level s) i ∙ ap (λ (z : ℕ). cond (leads m.size z) (last_level m.size m.shown (4 - level) (suc level) (z / address_step)) level) q

  pub down_more : (size a : ℕ) (child : Sector) → size ≡ m.size → a ≡ word new first_at → Some child ≡ sector_at size a → Down m m'' (level + 1) child.0
  down_more size a child z f l =
      let p = led_to m.size a child _ refl (l ∙ ap (λ (y : ℕ). sector_at y a) z) in
      let i : 4 - level ≡ 5 - (level + 1) = omega arith in
      let j : suc level ≡ level + 1 = omega arith in
      record {
        read = read-then h.read (read-got g);
        live = λ _. g.answer.live;
        was = λ _. h.was g.answer.was;
        on = λ _. g.answer.live;
        low = omega arith;
        inside = p.2;
        same =
            h.same ∙ step a f ∙ cond-true _ _ _ p.0 ∙ ap (λ (y : ℕ). last_level m.size m.shown y (suc level) (a / address_step)) i
            ∙ ap (λ (y : ℕ). last_level m.size m.shown (5 - (level + 1)) y (a / address_step)) j ∙ ap (last_level m.size m.shown (5 - (level + 1)) (level + 1)) (sym p.1);
      }

  pub down_ends : (size a : ℕ) → size ≡ m.size → a ≡ word new first_at → None ≡ sector_at size a → (level ≡ last_level m.size m.shown most_levels 1 root_sector) × (m.live ≡ true)
  down_ends size a z f l = (sym (h.same ∙ step a f ∙ cond-false _ _ _ (led_none m.size a (record { 0 = a / address_step }) _ refl (l ∙ ap (λ (y : ℕ). sector_at y a) z))), h.was g.answer.was)

-- five levels down
pub down-last : {m m' : Meaning} {level s : ℕ} → Down m m' level s → level ≡ 5 → (5 ≡ last_level m.size m.shown most_levels 1 root_sector) × (m.live ≡ true)
unfolding last_level
down-last {m} {m'} {level} {s} h e =
    let i : 5 - level ≡ 0 = omega arith in
    (sym e ∙ sym (h.same ∙ ap (λ (z : ℕ). last_level m.size m.shown z level s) i), h.was (h.on (omega arith)))

module _ {D : Type 0} {meaning : D → Meaning} {does : D → Request → Answer → D → Type 0} where
  pub levelled : {d d1 : D} {level s l : ℕ} → Reads does d d1 → Down (meaning d) (meaning d1) level s → (l ≡ last_level (meaning d).size (meaning d).shown most_levels 1 root_sector) × ((meaning d).live ≡ true) → Levelled meaning does d (Ok l) d1
  levelled z h p = record { reads = z; read = h.read; leaves = h.live; level = p }

  pub levelled-read : {d d1 d2 : D} {level s n l : ℕ} {old new : Contents} → Reads does d d1 → Down (meaning d) (meaning d1) level s → Gets (meaning d1) n old (Ok tt) (meaning d2) new → does d1 (getting n) (Ok tt) d2 →
      (l ≡ last_level (meaning d).size (meaning d).shown most_levels 1 root_sector) × ((meaning d).live ≡ true) → Levelled meaning does d (Ok l) d2
  levelled-read z h g a p = record { reads = more z a; read = read-then h.read (read-got g); leaves = λ _. g.answer.live; level = p }

  pub unlevelled : {d d1 d2 : D} {level s n : ℕ} {old new : Contents} {f : DiskFault} → Reads does d d1 → Down (meaning d) (meaning d1) level s → Gets (meaning d1) n old (Err f) (meaning d2) new → does d1 (getting n) (Err f) d2 → n ≡ s → Levelled meaning does d (Err (Disk f)) d2
  unlevelled {d} {d1} {d2} {n = n} {f = f} y h g a e =
      let i = h.inside in
      let z = h.read.size in
      record {
        reads = more y a;
        read = read-then h.read (read-got g);
        leaves = leaves-then meaning does d2 (Err (Disk f)) y h.read h.live (faults g a);
        level = gone-inside f.cause (meaning d1) (meaning d2) n f g.answer.why (omega arith);
      }

-- the number that was got
pub word-is : {a : ℕ} (b : Contents) (i : ℕ) (r : Option ℕ) → r ≡ Some a → MatchOption r (sector_size < i + word_size) (λ (v : ℕ). (i + word_size ≤ sector_size) × (v ≡ word b i)) → a ≡ word b i
word-is {a} b i (Some v) q h = let p : v ≡ a = cc in subst (λ (z : ℕ). z ≡ word b i) p h.1
word-is b i None q h = cc

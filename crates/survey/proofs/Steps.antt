-- Questions put one after another, and over a row of numbers.
use Rattle.std.proofs.Common.{◌≡◌, ℕ, zero, suc, ◌+◌, ◌-◌, ◌<◌, ◌≤◌, Bool, true, false, List, [], ◌∷◌, ◌++◌, Ok, Err, Result, sym, refl, ap, ◌∙◌, subst, arith}
use mathlib.Core.Path.{fun_ext}
use Rattle.catalog.specs.declared.fault.LayoutFault.{LayoutFault}
use Rattle.catalog.specs.declared.fault.VolumeFault.{VolumeFault}
use Rattle.catalog.specs.declared.fault.VolumeFault.TheVariants.{Disk, Layout}
use Rattle.catalog.specs.Catalogs.{range}
use Rattle.catalog.specs.Questions.{Sofar, Step, ask, onward, ◌▸◌, done, each}
use Rattle.survey.specs.declared.row.FileRow.{FileRow}
use Rattle.survey.specs.Asks.{World, Memory, Stands, Done, yes, Agrees, Asked}

-- ONE AFTER ANOTHER
agrees-then : (w : World) (t : List FileRow) (x1 x2 : Memory) (r : Done) (g : Step) (y : Result Sofar LayoutFault) → Agrees w t yes x1 y → ((s : Sofar) → Stands w t x1 s → Agrees w t r x2 (g s)) → Agrees w t r x2 (onward g y)
agrees-then w t x1 x2 r g (Ok s) p h = h s p
agrees-then w t x1 x2 r g (Err e) p h = absurd p

agrees-stop : (w : World) (t : List FileRow) (x x' : Memory) (e : VolumeFault) (g : Step) (y : Result Sofar LayoutFault) → Agrees w t (Err e) x y → Agrees w t (Err e) x' (onward g y)
agrees-stop w t x x' (Layout e) g y p = ap (onward g) p
agrees-stop w t x x' (Disk f) g y p = p

pub then : {w : World} {x x1 x2 : Memory} {r : Done} (f g : Step) → Asked w x f yes x1 → Asked w x1 g r x2 → Asked w x (f ▸ g) r x2
then {w} {x} {x1} {x2} {r} f g p q = record { agrees = λ t s h. agrees-then w t x1 x2 r g (f s) (p.agrees t s h) (q.agrees t) }

-- the first no is the answer, whatever would come after it
pub stop : {w : World} {x x1 : Memory} {e : VolumeFault} (f g : Step) → Asked w x f (Err e) x1 → Asked w x (f ▸ g) (Err e) x1
stop {w} {x} {x1} {e} f g p = record { agrees = λ t s h. agrees-stop w t x1 x1 e g (f s) (p.agrees t s h) }

pub nothing : (w : World) (x : Memory) → Asked w x done yes x
nothing w x = record { agrees = λ t s h. h }

pub said : {w : World} {x x' : Memory} {r : Done} {f g : Step} → f ≡ g → Asked w x f r x' → Asked w x g r x'
said {w} {x} {x'} {r} e p = subst (λ (h : Step). Asked w x h r x') e p

-- a test that is answered with yes, or with no
pub ask_yes : (w : World) (x : Memory) (b : Bool) (e : LayoutFault) → b ≡ true → Asked w x (ask b e) yes x
ask_yes w x b e q = subst (λ (z : Bool). Asked w x (ask z e) yes x) (sym q) (nothing w x)

pub ask_no : (w : World) (x x' : Memory) (b : Bool) (e : LayoutFault) → b ≡ false → Asked w x (ask b e) (Err (Layout e)) x'
ask_no w x x' b e q = subst (λ (z : Bool). Asked w x (ask z e) (Err (Layout e)) x') (sym q) (record { agrees = λ t s h. refl })

-- OVER A ROW OF NUMBERS
onward-done : (y : Result Sofar LayoutFault) → onward done y ≡ y
onward-done (Ok s) = refl
onward-done (Err e) = refl

onward-onward : (f g : Step) (y : Result Sofar LayoutFault) → onward g (onward f y) ≡ onward (f ▸ g) y
onward-onward f g (Ok s) = refl
onward-onward f g (Err e) = refl

-- three one after another, in either grouping
pub grouped : (f g h : Step) → f ▸ (g ▸ h) ≡ (f ▸ g) ▸ h
grouped f g h = fun_ext (λ s. sym (onward-onward g h (f s)))

pub then-done : (f : Step) → f ▸ done ≡ f
then-done f = fun_ext (λ s. onward-done (f s))

each_append : (f : ℕ → Step) (xs ys : List ℕ) (s : Sofar) → each f (xs ++ ys) s ≡ onward (each f ys) (each f xs s)
each_append f [] ys s = refl
each_append f (x ∷ xs) ys s =
    let e : each f (xs ++ ys) ≡ each f xs ▸ each f ys = fun_ext (each_append f xs ys) in
    ap (λ (g : Step). onward g (f x s)) e ∙ sym (onward-onward (each f xs) (each f ys) (f x s))

range-append : (a i n : ℕ) → range a (i + n) ≡ range a i ++ range (a + i) n
unfolding range
range-append a zero n = let e : 0 + n ≡ n = omega arith in let d : a + 0 ≡ a = omega arith in rw (e, d)
range-append a (suc i) n =
    let e : suc i + n ≡ suc (i + n) = omega arith in
    let d : a + suc i ≡ suc a + i = omega arith in
    ap (range a) e ∙ ap (λ (xs : List ℕ). a ∷ xs) (range-append (suc a) i n) ∙ ap (λ (b : ℕ). range a (suc i) ++ range b n) (sym d)

-- the questions f a to f (i - 1)
unfoldable pub run : (ℕ → Step) → ℕ → ℕ → Step
run f a i = each f (range a (i - a))

pub run_all : (f : ℕ → Step) (a n i : ℕ) → i ≡ a + n → run f a i ≡ each f (range a n)
unfolding run
run_all f a n i e = let d : i - a ≡ n = omega arith in ap (λ (m : ℕ). each f (range a m)) d

run_split : (f : ℕ → Step) (a i n : ℕ) → a ≤ i → i < n → (s : Sofar) → run f a n s ≡ onward (run f (i + 1) n) (onward (f i) (run f a i s))
unfolding run range
run_split f a i n h l s =
    let e : n - a ≡ (i - a) + suc (n - (i + 1)) = omega arith in
    let d : a + (i - a) ≡ i = omega arith in
    let c : suc i ≡ i + 1 = omega arith in
    ap (λ (m : ℕ). each f (range a m) s) e ∙ ap (λ (xs : List ℕ). each f xs s) (range-append a (i - a) (suc (n - (i + 1))))
    ∙ each_append f (range a (i - a)) (range (a + (i - a)) (suc (n - (i + 1)))) s
    ∙ ap (λ (b : ℕ). onward (each f (range b (suc (n - (i + 1))))) (each f (range a (i - a)) s)) d
    ∙ sym (onward-onward (f i) (each f (range (suc i) (n - (i + 1)))) (each f (range a (i - a)) s))
    ∙ ap (λ (b : ℕ). onward (each f (range b (n - (i + 1)))) (onward (f i) (each f (range a (i - a)) s))) c

run_none : (f : ℕ → Step) (a : ℕ) (s : Sofar) → run f a a s ≡ Ok s
unfolding run range
run_none f a s = let d : a - a ≡ 0 = omega arith in ap (λ (m : ℕ). each f (range a m) s) d

-- a loop's start, one more turn, and a turn that breaks off
pub start : (w : World) (x : Memory) (f : ℕ → Step) (a : ℕ) → Asked w x (run f a a) yes x
start w x f a = said (sym (fun_ext (run_none f a))) (nothing w x)

pub more : {w : World} {x x1 x2 : Memory} (f : ℕ → Step) (a i : ℕ) → a ≤ i → Asked w x (run f a i) yes x1 → Asked w x1 (f i) yes x2 → Asked w x (run f a (i + 1)) yes x2
more {w} {x} {x1} {x2} f a i h p q =
    let l : i < i + 1 = omega arith in
    let e : run f a (i + 1) ≡ (run f a i ▸ f i) ▸ run f (i + 1) (i + 1) = fun_ext (run_split f a i (i + 1) h l) in
    said (sym e) (then (run f a i ▸ f i) (run f (i + 1) (i + 1)) (then (run f a i) (f i) p q) (start w x2 f (i + 1)))

pub broke : {w : World} {x x1 x2 : Memory} {e : VolumeFault} (f : ℕ → Step) (a i n : ℕ) → a ≤ i → i < n → Asked w x (run f a i) yes x1 → Asked w x1 (f i) (Err e) x2 → Asked w x (run f a n) (Err e) x2
broke {w} {x} {x1} {x2} {e} f a i n h l p q =
    let d : run f a n ≡ (run f a i ▸ f i) ▸ run f (i + 1) n = fun_ext (run_split f a i n h l) in
    said (sym d) (stop (run f a i ▸ f i) (run f (i + 1) n) (then (run f a i) (f i) p q))

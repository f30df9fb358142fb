-- Names that rise, and the listing.
use Rattle.std.proofs.Common.{◌≡◌, ◌||◌, eqb, replicate, is_gt, add_comm, ℕ, zero, suc, ◌+◌, ◌<◌, Bool, true, false, ◌&&◌, List, [], ◌∷◌, ◌++◌, length, reverse, get_or, set, Some, None, Err, Option, sym, refl, ap, ◌∙◌, subst, arith}
use Rattle.std.proofs.lemmas.List.{length-map, length-reverse, length-replicate, map-append, reverse-append, get_or-set_same, get_or-set_other}
use Rattle.std.proofs.lemmas.List.Sums.{sum_by-cons}
use Rattle.std.proofs.lemmas.Bool.{and_from, cond-true, cond-false, eqb-true, eqb-false}
use Rattle.numbers.proofs.Naming.{only}
use Rattle.numbers.proofs.Ordered.{name-order}
use Rattle.numbers.specs.declared.name.Name.{Name}
use Rattle.numbers.specs.Names.{Key, good_name, name_field, name_in, is_name_field}
use Rattle.numbers.specs.Lengths.{sectors}
use Rattle.numbers.specs.declared.sector.Sector.{Sector}
use Rattle.numbers.specs.Order.{Cmp, below, same, above, cmp}
use Rattle.catalog.specs.declared.fault.LayoutFault.TheVariants.{BadEntry}
use Rattle.catalog.specs.declared.fault.VolumeFault.TheVariants.{Layout}
use Rattle.catalog.specs.Questions.{most_sectors, rise, list, is_above}
use Rattle.catalog.specs.Catalogs.{Row, member, overlaid}
use Rattle.survey.specs.declared.row.FileRow.{FileRow}
use Rattle.survey.specs.declared.map.SectorMap.{SectorMap}
use Rattle.survey.specs.Lines.{line, lines, is_met, none_met}
use Rattle.survey.specs.Asks.{World, Memory, LastIs, yes, Agrees, Asked}

-- THE LISTING. One line more
pub overlaid_more : (front t : List FileRow) (a : FileRow) → overlaid (front ++ a ∷ []) t ≡ set (overlaid front t) (length front) a
overlaid_more [] [] a = refl
overlaid_more [] (y ∷ ys) a = refl
overlaid_more (x ∷ xs) [] a = refl
overlaid_more (x ∷ xs) (y ∷ ys) a = ap (λ (l : List FileRow). x ∷ l) (overlaid_more xs ys a)

lines-more : (rs : List Row) (r : Row) → lines (reverse (r ∷ rs)) ≡ lines (reverse rs) ++ line r ∷ []
lines-more rs r = ap lines (reverse-append (r ∷ []) rs) ∙ map-append line (reverse rs) (r ∷ [])

lines_long : (rs : List Row) → length (lines (reverse rs)) ≡ length rs
lines_long rs = length-map (reverse rs) line ∙ length-reverse rs

pub listed-more : (rs : List Row) (r : Row) (t rows : List FileRow) (n : ℕ) → n ≡ length rs → rows ≡ overlaid (lines (reverse rs)) t → set rows n (line r) ≡ overlaid (lines (reverse (r ∷ rs))) t
listed-more rs r t rows n e h =
    ap (λ (l : List FileRow). set l n (line r)) h ∙ ap (λ (i : ℕ). set (overlaid (lines (reverse rs)) t) i (line r)) (e ∙ sym (lines_long rs))
    ∙ sym (overlaid_more (lines (reverse rs)) t (line r)) ∙ sym (ap (λ (l : List FileRow). overlaid l t) (lines-more rs r))

-- NAMES. A good name is above the last one, or above none
above_none : (k : Key) → good_name k ≡ true → is_above (cmp k []) ≡ true
above_none [] g = cc
above_none (b ∷ bs) g = refl

gt_above : (o : Cmp) → is_gt o ≡ is_above o
gt_above below = refl
gt_above same = refl
gt_above above = refl

pub above_first : (o : Option Name) (k : Key) (f : List ℕ) → o ≡ None → LastIs o k → is_name_field f ≡ true → true ≡ is_above (cmp (name_in f) k)
above_first o k f e h g =
    let z : k ≡ [] = subst (λ (p : Option Name). LastIs p k) e h in
    sym (ap (λ (y : Key). is_above (cmp (name_in f) y)) z ∙ above_none (name_in f) (only f g).0)

pub above_last : (o : Option Name) (n : Name) (k : Key) (f : List ℕ) (b : Bool) (c : Cmp) → o ≡ Some n → b ≡ is_gt c → c ≡ cmp f n.bytes → LastIs o k → is_name_field f ≡ true → b ≡ is_above (cmp (name_in f) k)
above_last o n k f b c e p q h g =
    let l : LastIs (Some n) k = subst (λ (y : Option Name). LastIs y k) e h in
    let i = only f g in
    p ∙ gt_above c ∙ ap is_above (q ∙ ap (λ (z : List ℕ). cmp z n.bytes) (sym i.1) ∙ ap (cmp (name_field (name_in f))) l.1 ∙ name-order.stored_order (name_in f) k i.0 l.0)

-- 16 is answered with no, and with yes
pub rise-no : (w : World) (x : Memory) (holder : Sector) (f : List ℕ) → is_name_field f ≡ true → ((k : Key) → LastIs x.found.last k → is_above (cmp (name_in f) k) ≡ false) →
    Asked w x (rise holder.0 f) (Err (Layout (BadEntry holder))) x
rise-no w x holder f g h =
    record { agrees = λ t s st. cond-false (is_name_field f && is_above (cmp (name_in f) s.last)) _ _ (and_false (is_name_field f) _ (h s.last st.name)) }
  where
    and_false : (a b : Bool) → b ≡ false → (a && b) ≡ false
    and_false true b e = e
    and_false false b e = refl

pub rise-yes : (w : World) (x x' : Memory) (holder : ℕ) (n : Name) (f : List ℕ) → n.bytes ≡ f → is_name_field f ≡ true → ((k : Key) → LastIs x.found.last k → is_above (cmp (name_in f) k) ≡ true) →
    x'.found.size ≡ x.found.size → x'.found.leaf_level ≡ x.found.leaf_level → x'.found.map ≡ x.found.map → x'.found.last ≡ Some n → x'.found.names ≡ x.found.names → x'.found.file_sectors ≡ x.found.file_sectors → x'.rows ≡ x.rows →
    Asked w x (rise holder f) yes x'
rise-yes w x x' holder n f e g h z d m l c a r =
    record {
      agrees = λ t s st.
          let i = only f g in
          subst (Agrees w t yes x') (sym (cond-true (is_name_field f && is_above (cmp (name_in f) s.last)) _ _ (and_from _ _ g (h s.last st.name))))
          (record {
            size = z ∙ st.size;
            deep = d ∙ st.deep;
            marks = λ k. ap (λ (y : SectorMap). is_met y.met k) m ∙ st.marks k;
            name = subst (λ (y : Option Name). LastIs y (name_in f)) (sym l) (i.0, e ∙ sym i.1);
            names = c ∙ st.names;
            sectors = a ∙ st.sectors;
            rows = r ∙ st.rows;
          });
    }

-- a file is listed
pub listed : (w : World) (x x' : Memory) (r : Row) →
    x'.found.size ≡ x.found.size → x'.found.leaf_level ≡ x.found.leaf_level → x'.found.map ≡ x.found.map → x'.found.last ≡ x.found.last → x'.found.names ≡ x.found.names + 1 → x'.found.file_sectors ≡ x.found.file_sectors + sectors r.long → x'.rows ≡ set x.rows x.found.names (line r) →
    Asked w x (list r) yes x'
listed w x x' r z d m l c f e =
    record {
      agrees = λ t s st.
          record {
            size = z ∙ st.size;
            deep = d ∙ st.deep;
            marks = λ k. ap (λ (y : SectorMap). is_met y.met k) m ∙ st.marks k;
            name = subst (λ (y : Option Name). LastIs y s.last) (sym l) st.name;
            names = let q = st.names in omega (arith, c);
            sectors = f ∙ ap (λ (y : ℕ). y + sectors r.long) st.sectors ∙ add_comm _ _ ∙ sym (sum_by-cons (λ (y : Row). sectors y.long) r s.listed);
            rows = e ∙ listed-more s.listed r t x.rows x.found.names st.names st.rows;
          };
    }

-- the row that a name in its field makes
pub row-line : (b : List ℕ) (first long : ℕ) → is_name_field b ≡ true → line (record { name = name_in b; first = first; long = long }) ≡ record { name = record { bytes = b }; first = record { 0 = first }; length = record { 0 = long } }
row-line b first long g = ap (λ (y : List ℕ). record { name = record { bytes = y }; first = record { 0 = first }; length = record { 0 = long } }) (only b g).1

-- THE START. Of an empty map one sector is met
pub one_met : (marks : List Bool) (n : ℕ) → n < most_sectors → marks ≡ set none_met n true → (k : ℕ) → is_met marks k ≡ member k (n ∷ [])
unfolding none_met
one_met marks n h e k = ap (λ (m : List Bool). is_met m k) e ∙ go (eqb k n) refl where
  go : (b : Bool) → eqb k n ≡ b → is_met (set (replicate most_sectors false) n true) k ≡ (eqb k n || false)
  go true q =
      let i : k ≡ n = eqb-true k n q in
      let l : n < length (replicate most_sectors false) = simp length-replicate h in
      ap (is_met (set (replicate most_sectors false) n true)) i ∙ get_or-set_same (replicate most_sectors false) n true false l ∙ sym (ap (λ (y : Bool). y || false) q)
  go false q = get_or-set_other (replicate most_sectors false) n k true false (eqb-false k n q) ∙ unmet most_sectors k ∙ sym (ap (λ (y : Bool). y || false) q) where
    unmet : (m i : ℕ) → get_or (replicate m false) i false ≡ false
    unmet zero i = refl
    unmet (suc m) zero = refl
    unmet (suc m) (suc i) = unmet m i

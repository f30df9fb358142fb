-- A page's questions: when they go on, which sectors they meet, which names they pass and which files they find.
use Rattle.std.proofs.Common.{◌≡◌, ℕ, zero, suc, ◌+◌, ◌-◌, ◌/◌, ◌<◌, ◌≤◌, Bool, true, false, cond, not, ◌&&◌, ◌||◌, eqb, leb, ◌⊎◌, List, [], ◌∷◌, ◌++◌, map, length, append-nil, Ok, Err, Result, sym, refl, ap, ◌∙◌, subst, inl, inr, arith}
use Rattle.std.proofs.lemmas.List.{length-map}
use Rattle.std.proofs.lemmas.Bool.{eqb-true, eq-eqb, ne_eqb, and_parts, and_from, leb-true, le-leb}
use Rattle.numbers.specs.Names.{Key, name_size, every, good_name, name_field, name_in}
use Rattle.numbers.specs.Sectors.{address_step, address, leads}
use Rattle.layout.specs.declared.entry.PageKind.TheVariants.{Root, Other}
use Rattle.layout.specs.Words.{word, part}
use Rattle.layout.specs.Entries.{page_mark, page_mark_at, count_at, first_at, zeros_at, entries_at, entry_at, file_at, below_at, least_of, most_entries, count_fits}
use Rattle.tree.specs.Tree.{Entry, Item, item, Page, page, fewest, most_levels, All, Child, flat, flat_rest, Full, FullPage, lowest}
use Rattle.tree.specs.Stored.{map_rest, map_page}
use Rattle.tree.proofs.Lists.{all_left, all_right, all_join}
use Rattle.disk.specs.Meaning.{Contents}
use Rattle.catalog.specs.declared.fault.LayoutFault.{LayoutFault}
use Rattle.catalog.specs.declared.fault.LayoutFault.TheVariants.{BadMark, BadCount, BadAddress, BadLevel}
use Rattle.catalog.specs.Catalogs.{Laid, bare, range}
use Rattle.catalog.specs.Lays.{under, ItemsAt, Below, Children, FileAt}
use Rattle.catalog.specs.Questions.{Sofar, Step, ask, onward, ◌▸◌, each, at, meet, rise, list, kind_at, link, ask_file, ask_entry, ask_page, extent, laid}
use Rattle.catalog.proofs.Counts.{length-range}
use Rattle.catalog.proofs.Means.{line, Means, Can, After, means-iff, means-seq, means-ask, means-done, means-list, means-link, means-none, free-head}
use Rattle.catalog.proofs.File.{file_rest, means-file}
use Rattle.catalog.proofs.Rise.{means-rise}

-- a page as it is asked: its zeros are asked one by one, so that the question needs no length of its sector
abbrev pub PageAsked : (n : ℕ) → Contents → Page Key (Laid n) → Type 0
PageAsked n c (page d xs) =
    (word c page_mark_at ≡ page_mark) × (word c count_at ≡ length xs) × (word c first_at ≡ under n d)
    × (every (λ (b : ℕ). eqb b 0) (part c zeros_at (entries_at - zeros_at)) ≡ true) × ItemsAt n c 0 xs

abbrev pub LaidAsked : (ℕ → Contents) → (n : ℕ) → Laid n → Type 0
LaidAsked shown zero t = Unit {0}
LaidAsked shown (suc n) t = PageAsked n (shown t.0) t.1 × Children (LaidAsked shown n) t.1

pub length-mapped : {S T : Type 0} (f : S → T) (xs : List (Item Key S)) → length (map_rest f xs) ≡ length xs
length-mapped f [] = refl
length-mapped f (item e d ∷ xs) = ap suc (length-mapped f xs)

least-is : (root leaf : Bool) → least_of (cond root Root Other) leaf ≡ cond root (cond leaf 0 1) fewest
least-is true true = refl
least-is true false = refl
least-is false true = refl
least-is false false = refl

-- two steps that went on, one after the other
pub ok-split : (f g : Step) (st st' : Sofar) → (f ▸ g) st ≡ Ok st' → (s : Sofar) × (f st ≡ Ok s) × (g s ≡ Ok st')
ok-split f g st st' h = go (f st) refl h
  where
    go : (r : Result Sofar LayoutFault) → f st ≡ r → onward g r ≡ Ok st' → (s : Sofar) × (f st ≡ Ok s) × (g s ≡ Ok st')
    go (Ok s) e h = (s, e, h)
    go (Err r) e h = cc

module _ (size : ℕ) (shown : ℕ → Contents) where
  -- sectors in the order met
  abbrev pub uses_items : {S : Type 0} → (S → List ℕ) → List (Item Key S) → List ℕ
  uses_items f [] = []
  uses_items f (item e d ∷ xs) = ((e.1 ∷ file_rest size shown e.1) ++ f d) ++ uses_items f xs

  abbrev pub uses_page : {S : Type 0} → (S → List ℕ) → Page Key S → List ℕ
  uses_page f (page c xs) = f c ++ uses_items f xs

  abbrev pub uses : (n : ℕ) → Laid n → List ℕ
  uses zero t = []
  uses (suc n) t = t.0 ∷ uses_page (uses n) t.1

  abbrev pub Sure : Entry Key → Type 0
  Sure e = (good_name e.0 ≡ true) × FileAt shown e.1 (extent size shown e.1)

  -- what hangs below an address; a page with at least low entries
  abbrev pub Hangs : (n : ℕ) → Laid n → Type 0
  Hangs n t = LaidAsked shown n t × Full Key n (bare n t) × All Sure (flat Key n (bare n t))

  abbrev pub PageHolds : ℕ → (n : ℕ) → ℕ → Type 0
  PageHolds low n s =
      LaidAsked shown (suc n) (laid size shown (suc n) s) × FullPage (Full Key n) low (map_page (bare n) (laid size shown (suc n) s).1)
      × All Sure (flat Key (suc n) (bare (suc n) (laid size shown (suc n) s)))

  abbrev pub item_in : (n : ℕ) → Contents → ℕ → Item Key (Laid n)
  item_in n c i = item (name_in (part c (entry_at i) name_size), word c (entry_at i + file_at) / address_step) (laid size shown n (word c (entry_at i + below_at) / address_step))

  abbrev RestHolds : (n : ℕ) → Contents → ℕ → List (Item Key (Laid n)) → Type 0
  RestHolds n c i xs = ItemsAt n c i xs × Below (LaidAsked shown n) xs × All (Child (Full Key n)) (map_rest (bare n) xs) × All Sure (flat_rest (flat Key n) (map_rest (bare n) xs))

  abbrev pub item_step : Bool → (ℕ → Step) → ℕ → ℕ → Step
  item_step leaf kid s i =
      rise s (part (shown s) (entry_at i) name_size) ▸
      link size shown true s (word (shown s) (entry_at i + file_at)) (ask_entry size shown (name_in (part (shown s) (entry_at i) name_size))) ▸
      link size shown (not leaf) s (word (shown s) (entry_at i + below_at)) kid

  abbrev pub mark_test : ℕ → Bool
  mark_test s = eqb (word (shown s) page_mark_at) page_mark && every (λ (b : ℕ). eqb b 0) (part (shown s) zeros_at (entries_at - zeros_at))

  abbrev pub level_test : ℕ → Bool → ℕ → Bool
  level_test deep leaf level = leb level most_levels && (not leaf || eqb level deep)

  -- the questions of a page, its leaf test and what is asked of its children given
  abbrev pub body : ℕ → Bool → (ℕ → Step) → ℕ → ℕ → Step
  body deep leaf kid level s =
      ask (mark_test s) (BadMark (at s)) ▸
      ask (count_fits (kind_at level) leaf (word (shown s) count_at)) (BadCount (at s)) ▸
      ask (level_test deep leaf level) (BadLevel (at s)) ▸
      link size shown (not leaf) s (word (shown s) first_at) kid ▸
      (λ (st : Sofar). each (λ (i : ℕ). item_step leaf kid s i) (range 0 (word (shown s) count_at)) st)

  abbrev KidHolds : (n : ℕ) → ℕ → Type 0
  KidHolds n w = (w ≡ under n (laid size shown n (w / address_step))) × Hangs n (laid size shown n (w / address_step))

  abbrev Kids : (n : ℕ) → Bool → (ℕ → Step) → Type 0
  Kids n leaf kid = (holder w : ℕ) → Means size shown (link size shown (not leaf) holder w kid) (KidHolds n w)
      (uses n (laid size shown n (w / address_step))) (flat Key n (bare n (laid size shown n (w / address_step)))) (flat Key n (bare n (laid size shown n (w / address_step))))

  means-entry : (k : Key) (x : ℕ) → Means size shown (ask_entry size shown k x) (FileAt shown x (extent size shown x)) (file_rest size shown x) [] ((k, x) ∷ [])
  means-entry k x =
      let a = means-file size shown x in
      let b = means-list size shown (k, x) in
      means-iff (λ h. h.0) (λ h. (h, tt)) (subst (λ (us : List ℕ). Means size shown (ask_entry size shown k x) (FileAt shown x (extent size shown x) × Unit {0}) us [] ((k, x) ∷ []))
      (append-nil (file_rest size shown x)) (means-seq size shown (ask_file size shown x) (list (line shown (k, x))) _ _ (file_rest size shown x) [] [] [] [] ((k, x) ∷ []) a b))

  module _ (n : ℕ) (leaf : Bool) (kid : ℕ → Step) (kids : Kids n leaf kid) (s : ℕ) where
    abbrev StepHolds : ℕ → Type 0
    StepHolds i =
        (((good_name (name_in (part (shown s) (entry_at i) name_size)) ≡ true) × (part (shown s) (entry_at i) name_size ≡ name_field (name_in (part (shown s) (entry_at i) name_size)))) ×
        ((word (shown s) (entry_at i + file_at) ≡ address (word (shown s) (entry_at i + file_at) / address_step)) ×
        FileAt shown (word (shown s) (entry_at i + file_at) / address_step) (extent size shown (word (shown s) (entry_at i + file_at) / address_step)))) ×
        KidHolds n (word (shown s) (entry_at i + below_at))

    means-step : (i : ℕ) → let t = laid size shown n (word (shown s) (entry_at i + below_at) / address_step) in
        let e : Entry Key = (name_in (part (shown s) (entry_at i) name_size), word (shown s) (entry_at i + file_at) / address_step) in
        Means size shown (item_step leaf kid s i) (StepHolds i) ((e.1 ∷ file_rest size shown e.1) ++ uses n t) (e ∷ flat Key n (bare n t)) (e ∷ flat Key n (bare n t))
    means-step i =
        let v = word (shown s) (entry_at i + file_at) in
        let x = v / address_step in
        let k = name_in (part (shown s) (entry_at i) name_size) in
        let a = means-rise size shown s (part (shown s) (entry_at i) name_size) x in
        let b = means-link size shown s v (ask_entry size shown k) (λ x. FileAt shown x (extent size shown x)) (λ x. file_rest size shown x) (λ x. []) (λ x. (k, x) ∷ []) (λ x. means-entry k x) in
        let d = kids s (word (shown s) (entry_at i + below_at)) in
        means-seq size shown _ _ _ _ (x ∷ file_rest size shown x) _ ((k, x) ∷ []) _ ((k, x) ∷ []) _ (means-seq size shown _ _ _ _ [] (x ∷ file_rest size shown x) ((k, x) ∷ []) [] [] ((k, x) ∷ []) a b) d

    means-items : (m i : ℕ) → let xs = map (item_in n (shown s)) (range i m) in
        Means size shown (each (λ (i : ℕ). item_step leaf kid s i) (range i m)) (RestHolds n (shown s) i xs) (uses_items (uses n) xs) (flat_rest (flat Key n) (map_rest (bare n) xs)) (flat_rest (flat Key n) (map_rest (bare n) xs))
    unfolding range
    means-items zero i = means-iff (λ u. (tt, tt, tt, tt)) (λ u. tt) (means-done size shown)
    means-items (suc m) i =
        let d = laid size shown n (word (shown s) (entry_at i + below_at) / address_step) in
        let xs = map (item_in n (shown s)) (range (suc i) m) in
        let es = flat_rest (flat Key n) (map_rest (bare n) xs) in
        means-iff {P = StepHolds i × RestHolds n (shown s) (suc i) xs} {Q = RestHolds n (shown s) i (item_in n (shown s) i ∷ xs)}
        (λ h. ((h.0.0.0.1, h.0.0.1.0, h.0.1.0, h.1.0), (h.0.1.1.0, h.1.1), (h.0.1.1.1, h.1.2), ((h.0.0.0.0, h.0.0.1.1), all_join Sure (flat Key n (bare n d)) es h.0.1.1.2 h.1.3)))
        (λ h. ((((h.3.0.0, h.0.0), (h.0.1, h.3.0.1)), (h.0.2, (h.1.0, h.2.0, all_left Sure (flat Key n (bare n d)) es h.3.1))), (h.0.3, h.1.1, h.2.1, all_right Sure (flat Key n (bare n d)) es h.3.1)))
        (means-seq size shown (item_step leaf kid s i) (each (λ (i : ℕ). item_step leaf kid s i) (range (suc i) m)) (StepHolds i) (RestHolds n (shown s) (suc i) xs) _ _ _ _ _ _ (means-step i) (means-items m (suc i)))

    module _ (deep : ℕ) where
      abbrev BodyHolds : ℕ → Type 0
      BodyHolds level = ((((mark_test s ≡ true) × (count_fits (kind_at level) leaf (word (shown s) count_at) ≡ true)) × (level_test deep leaf level ≡ true)) × KidHolds n (word (shown s) first_at))
          × RestHolds n (shown s) 0 (map (item_in n (shown s)) (range 0 (word (shown s) count_at)))

      means-body : (level : ℕ) → let t = laid size shown (suc n) s in
          Means size shown (body deep leaf kid level s) (BodyHolds level) (uses_page (uses n) t.1) (flat Key (suc n) (bare (suc n) t)) (flat Key (suc n) (bare (suc n) t))
      unfolding laid
      means-body level =
          let m₁ = means-ask size shown (mark_test s) (BadMark (at s)) in
          let m₂ = means-ask size shown (count_fits (kind_at level) leaf (word (shown s) count_at)) (BadCount (at s)) in
          let m₃ = means-ask size shown (level_test deep leaf level) (BadLevel (at s)) in
          let m₄ = kids s (word (shown s) first_at) in
          let m₅ = means-items (word (shown s) count_at) 0 in
          means-seq size shown _ (λ (st : Sofar). each (λ (i : ℕ). item_step leaf kid s i) (range 0 (word (shown s) count_at)) st) _ _ _ _ _ _ _ _
          (means-seq size shown _ _ _ _ [] _ [] _ [] _ (means-seq size shown _ _ _ _ [] [] [] [] [] [] (means-seq size shown _ _ _ _ [] [] [] [] [] [] m₁ m₂) m₃) m₄) m₅

      pub body-page : (level low : ℕ) → low ≡ cond (eqb level 1) (cond leaf 0 1) fewest → level_test deep leaf level ≡ true → let t = laid size shown (suc n) s in
          Means size shown (body deep leaf kid level s) (PageHolds low n s) (uses_page (uses n) t.1) (flat Key (suc n) (bare (suc n) t)) (flat Key (suc n) (bare (suc n) t))
      unfolding laid
      body-page level low el lt = means-iff (λ h. to h) (λ h. back h) (means-body level)
        where
          d : Laid n
          d = laid size shown n (word (shown s) first_at / address_step)

          es : List (Entry Key)
          es = flat_rest (flat Key n) (map_rest (bare n) (map (item_in n (shown s)) (range 0 (word (shown s) count_at))))

          many : length (map (item_in n (shown s)) (range 0 (word (shown s) count_at))) ≡ word (shown s) count_at
          many = length-map (range 0 (word (shown s) count_at)) (item_in n (shown s)) ∙ length-range 0 (word (shown s) count_at)

          many' : length (map_rest (bare n) (map (item_in n (shown s)) (range 0 (word (shown s) count_at)))) ≡ word (shown s) count_at
          many' = length-mapped (bare n) (map (item_in n (shown s)) (range 0 (word (shown s) count_at)))
              ∙ (length-map (range 0 (word (shown s) count_at)) (item_in n (shown s)) ∙ length-range 0 (word (shown s) count_at))

          least : least_of (kind_at level) leaf ≡ low
          least = least-is (eqb level 1) leaf ∙ sym el

          to : BodyHolds level → PageHolds low n s
          to h =
              let p = and_parts (eqb (word (shown s) page_mark_at) page_mark) _ h.0.0.0.0 in
              let q = and_parts (leb (least_of (kind_at level) leaf) (word (shown s) count_at)) (leb (word (shown s) count_at) most_entries) h.0.0.0.1 in
              let fits = subst (λ (k : ℕ). k ≤ word (shown s) count_at) least (leb-true _ (word (shown s) count_at) q.0) in (
                ((eqb-true (word (shown s) page_mark_at) page_mark p.0, sym many, h.0.1.0, p.1, h.1.0), (h.0.1.1.0, h.1.1)),
                (subst (λ (k : ℕ). low ≤ k) (sym many') fits, subst (λ (k : ℕ). k ≤ most_entries) (sym many') (leb-true (word (shown s) count_at) most_entries q.1), h.0.1.1.1, h.1.2),
                all_join Sure (flat Key n (bare n d)) es h.0.1.1.2 h.1.3,
              )

          back : PageHolds low n s → BodyHolds level
          back h =
              let p = h.0.0 in
              let f = h.1 in
              let fits = subst (λ (k : ℕ). k ≤ word (shown s) count_at) (sym least) (subst (λ (k : ℕ). low ≤ k) many' f.0) in
              let most = subst (λ (k : ℕ). k ≤ most_entries) many' f.1 in (
                (
                  ((and_from _ _ (eq-eqb (word (shown s) page_mark_at) page_mark p.0) p.3, and_from _ _ (le-leb _ (word (shown s) count_at) fits) (le-leb (word (shown s) count_at) most_entries most)), lt),
                  (p.2, (h.0.1.0, f.2, all_left Sure (flat Key n (bare n d)) es h.2)),
                ),
                (p.4, h.0.1.1, f.3, all_right Sure (flat Key n (bare n d)) es h.2),
              )

  module _ (deep : ℕ) where
    -- of a page that passes: its level's test, and if it is no leaf, its first child passes
    body-level : (leaf : Bool) (kid : ℕ → Step) (level s : ℕ) (st st' : Sofar) → body deep leaf kid level s st ≡ Ok st' → level_test deep leaf level ≡ true
    body-level leaf kid level s st st' h =
        let m = ask (mark_test s) (BadMark (at s)) ▸ ask (count_fits (kind_at level) leaf (word (shown s) count_at)) (BadCount (at s)) in
        let l = ask (level_test deep leaf level) (BadLevel (at s)) in
        let k = link size shown (not leaf) s (word (shown s) first_at) kid in
        let a = ok-split (m ▸ l ▸ k) (λ (st : Sofar). each (λ (i : ℕ). item_step leaf kid s i) (range 0 (word (shown s) count_at)) st) st st' h in
        let b = ok-split (m ▸ l) k st a.0 a.1 in
        let d = ok-split m l st b.0 b.1 in
        ((means-ask size shown (level_test deep leaf level) (BadLevel (at s))).sound d.0 b.0 d.2).0

    body-kid : (kid : ℕ → Step) (level s : ℕ) (st st' : Sofar) → body deep false kid level s st ≡ Ok st' → (x y : Sofar) × (kid (word (shown s) first_at / address_step) x ≡ Ok y)
    body-kid kid level s st st' h =
        let w = word (shown s) first_at in
        let m = ask (mark_test s) (BadMark (at s)) ▸ ask (count_fits (kind_at level) false (word (shown s) count_at)) (BadCount (at s)) ▸ ask (level_test deep false level) (BadLevel (at s)) in
        let a = ok-split (m ▸ link size shown true s w kid) (λ (st : Sofar). each (λ (i : ℕ). item_step false kid s i) (range 0 (word (shown s) count_at)) st) st st' h in
        let b = ok-split m (link size shown true s w kid) st a.0 a.1 in
        let d = ok-split (ask (leads size w) (BadAddress (at s)) ▸ meet s (w / address_step)) (kid (w / address_step)) b.0 a.0 b.2 in
        (d.0, a.0, d.2)

    -- no page below the leaf's level passes, and none if that is past 4
    pub dead : (fuel level s : ℕ) (st st' : Sofar) → (deep < level) ⊎ (most_levels < deep) → ask_page size shown deep fuel level s st ≡ Ok st' → ⊥
    unfolding ask_page
    dead zero level s st st' d h = let z : ◌≡◌ {A = ℕ} 0 1 = cc in omega arith
    dead (suc fuel) level s st st' d h = go (eqb (word (shown s) first_at) 0) h (λ s' x y e. dead fuel (suc level) s' x y (deeper d) e)
      where
        deeper : (deep < level) ⊎ (most_levels < deep) → (deep < suc level) ⊎ (most_levels < deep)
        deeper (inl a) = inl (omega arith)
        deeper (inr a) = inr a

        go : (leaf : Bool) → body deep leaf (ask_page size shown deep fuel (suc level)) level s st ≡ Ok st' → ((s' : ℕ) (x y : Sofar) → ask_page size shown deep fuel (suc level) s' x ≡ Ok y → ⊥) → ⊥
        go true h r =
            let p = and_parts (leb level most_levels) (eqb level deep) (body-level true (ask_page size shown deep fuel (suc level)) level s st st' h) in
            let u = leb-true level most_levels p.0 in
            let v = eqb-true level deep p.1 in
            last d u v
          where
            last : (deep < level) ⊎ (most_levels < deep) → level ≤ most_levels → level ≡ deep → ⊥
            last (inl a) u v = omega arith
            last (inr a) u v = omega arith
        go false h r = let k = body-kid (ask_page size shown deep fuel (suc level)) level s st st' h in r (word (shown s) first_at / address_step) k.0 k.1 k.2

  abbrev pub uses_in : (n : ℕ) → ℕ → List ℕ
  uses_in n s = uses_page (uses n) (laid size shown (suc n) s).1

  abbrev pub names_in : (n : ℕ) → ℕ → List (Entry Key)
  names_in n s = flat Key (suc n) (bare (suc n) (laid size shown (suc n) s))

  finish : (deep : ℕ) (leaf : Bool) (fuel level s : ℕ) (P : Type 0) (us : List ℕ) (es : List (Entry Key)) →
      Means size shown (body deep leaf (ask_page size shown deep fuel (suc level)) level s) P us es es →
      ((st st' : Sofar) → body deep (not leaf) (ask_page size shown deep fuel (suc level)) level s st ≡ Ok st' → ⊥) →
      ((st : Sofar) → P → Can size us es st → eqb (word (shown s) first_at) 0 ≡ leaf) →
      Means size shown (ask_page size shown deep (suc fuel) level s) P us es es
  unfolding ask_page
  finish deep leaf fuel level s P us es m never is = record {
    sound = λ st st' h. go st st' leaf (eqb (word (shown s) first_at) 0) (λ x. m.sound st st' x) (λ x. never st st' x) h;
    complete = λ st p c. let r = m.complete st p c in (r.0, subst (λ (b : Bool). body deep b (ask_page size shown deep fuel (suc level)) level s st ≡ Ok r.0) (sym (is st p c)) r.1);
  }
    where
      go : (st st' : Sofar) (a b : Bool) → (body deep a (ask_page size shown deep fuel (suc level)) level s st ≡ Ok st' → P × Can size us es st × After shown us es es st st') →
          (body deep (not a) (ask_page size shown deep fuel (suc level)) level s st ≡ Ok st' → ⊥) → body deep b (ask_page size shown deep fuel (suc level)) level s st ≡ Ok st' → P × Can size us es st × After shown us es es st st'
      go st st' true true f g h = f h
      go st st' true false f g h = absurd (g h)
      go st st' false true f g h = absurd (g h)
      go st st' false false f g h = f h

  -- the sectors that an inner page's questions meet after its first child's
  abbrev others : (n : ℕ) → ℕ → List ℕ
  others n s = uses_in n (word (shown s) first_at / address_step) ++ uses_items (uses (suc n)) (map (item_in (suc n) (shown s)) (range 0 (word (shown s) count_at)))

  module _ (deep : ℕ) (shallow : deep ≤ most_levels) where
    leaf-kids : (kid : ℕ → Step) → Kids zero true kid
    leaf-kids kid holder w = means-iff (λ e. (e, (tt, tt, tt))) (λ h. h.0) (means-none size shown holder w kid)

    pub means-page : (n fuel level : ℕ) → 1 ≤ level → level + n ≡ deep → n < fuel → (s : ℕ) →
        Means size shown (ask_page size shown deep fuel level s) (PageHolds (cond (eqb level 1) (lowest n) fewest) n s) (uses_in n s) (names_in n s) (names_in n s)
    unfolding laid
    means-page n zero level l e u s = absurd (omega arith)
    means-page zero (suc fuel) level l e u s =
        let kid = ask_page size shown deep fuel (suc level) in
        let lt = and_from _ _ (le-leb level most_levels (omega arith)) (eq-eqb level deep (omega arith)) in
        finish deep true fuel level s _ _ _ (body-page zero true kid (leaf-kids kid) s deep level (cond (eqb level 1) (lowest zero) fewest) refl lt)
        (λ st st' h. let k = body-kid deep kid level s st st' h in dead deep fuel (suc level) (word (shown s) first_at / address_step) k.0 k.1 (inl (omega arith)) k.2)
        (λ st p c. eq-eqb (word (shown s) first_at) 0 p.0.0.2)
    means-page (suc n) (suc fuel) level l e u s =
        let kid = ask_page size shown deep fuel (suc level) in
        let lt = and_from _ _ (le-leb level most_levels (omega arith)) refl in
        let r : (x : ℕ) → Means size shown (kid x) (PageHolds fewest n x) (uses_in n x) (names_in n x) (names_in n x) =
        λ x. subst (λ (b : Bool). Means size shown (kid x) (PageHolds (cond b (lowest n) fewest) n x) (uses_in n x) (names_in n x) (names_in n x)) (ne_eqb (suc level) 1 (omega arith)) (means-page n fuel (suc level) (omega arith) (omega arith) (omega arith) x) in
        let kids : Kids (suc n) false kid = λ holder w. means-link size shown holder w kid (λ x. PageHolds fewest n x) (λ x. uses_in n x) (λ x. names_in n x) (λ x. names_in n x) r in
        finish deep false fuel level s _ _ _ (body-page (suc n) false kid kids s deep level (cond (eqb level 1) (lowest (suc n)) fewest) refl lt)
        (λ st st' h. let p = and_parts (leb level most_levels) (eqb level deep) (body-level deep true kid level s st st' h) in let v = eqb-true level deep p.1 in omega arith)
        (λ st p c. ne_eqb (word (shown s) first_at) 0 (λ z. let q = (free-head size shown (word (shown s) first_at / address_step) (others n s) st.met c.free).0 in omega arith))

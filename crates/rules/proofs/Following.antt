-- Chains along link 0: they are determined, a chain that ends repeats no place, and so it is short.
use Rattle.std.proofs.Common.{◌≡◌, ℕ, zero, suc, ◌+◌, ◌<◌, ◌≤◌, Bool, true, false, cond, ◌||◌, eqb, ltb, List, [], ◌∷◌, map, length, Some, None, Option, sym, refl, ap, ◌∙◌, subst, arith}
use Rattle.std.proofs.lemmas.List.{length-map}
use Rattle.std.proofs.lemmas.Bool.{eqb-true, ltb-true, lt-ltb}
use Rattle.words.specs.Words.{place_of}
use Rattle.words.specs.declared.place.Place.{Place}
use Rattle.words.specs.declared.place.Place.TheVariants.{Young, Old}
use Rattle.ring.specs.Arcs.{has, upto}
use Rattle.rules.specs.Rules.{Sizes, Store, in_store}
use Rattle.rules.specs.Chains.{leads, first_link, Chain, ends, goes, follow, stops, then_on, onto_chain, all_places, FollowedToTheEnd}
use Rattle.ring.specs.Sound.{count}
use Rattle.ring.proofs.Fresh.{count_upto, length_upto}
use Rattle.rules.proofs.Counting.{one_if, hasnt_count, length_by_counts}

module _ (z : Sizes) (s : Store) where
  -- following finds chains
  follow_sound : (n w : ℕ) (ps : List Place) → follow z s n w ≡ Some ps → Chain z s w ps
  follow_sound zero w ps h = go (leads z s w) refl h
    where
      go : (o : Option Place) → leads z s w ≡ o → stops o ≡ Some ps → Chain z s w ps
      go None e f = let k : [] ≡ ps = cc in subst (λ x. Chain z s w x) k (ends e)
      go (Some p) e f = absurd (let k : ◌≡◌ {A = ℕ} 0 1 = cc in omega arith)
  follow_sound (suc n) w ps h = go (leads z s w) refl h (follow_sound n)
    where
      inner : (p : Place) → leads z s w ≡ Some p → (o : Option (List Place)) → follow z s n (first_link s p) ≡ o → onto_chain p o ≡ Some ps → ((w : ℕ) (ps : List Place) → follow z s n w ≡ Some ps → Chain z s w ps) → Chain z s w ps
      inner p e None f g again = absurd (let k : ◌≡◌ {A = ℕ} 0 1 = cc in omega arith)
      inner p e (Some qs) f g again = let k : p ∷ qs ≡ ps = cc in subst (λ x. Chain z s w x) k (goes e (again (first_link s p) qs f))

      go : (o : Option Place) → leads z s w ≡ o → then_on (follow z s n) s o ≡ Some ps → ((w : ℕ) (ps : List Place) → follow z s n w ≡ Some ps → Chain z s w ps) → Chain z s w ps
      go None e f again = let k : [] ≡ ps = cc in subst (λ x. Chain z s w x) k (ends e)
      go (Some p) e f again = inner p e (follow z s n (first_link s p)) refl f again

  -- and each chain that is short enough
  follow_complete : (n w : ℕ) (ps : List Place) → length ps ≤ n → Chain z s w ps → follow z s n w ≡ Some ps
  follow_complete zero w [] l (ends e) = ap stops e
  follow_complete zero w (p ∷ ps) l (goes e c) = absurd (omega arith)
  follow_complete (suc n) w [] l (ends e) = ap (then_on (follow z s n) s) e
  follow_complete (suc n) w (p ∷ ps) l (goes e c) = ap (then_on (follow z s n) s) e ∙ ap (onto_chain p) (follow_complete n (first_link s p) ps (omega arith) c)

  -- a word has one chain
  pub chain_unique : (w : ℕ) (ps qs : List Place) → Chain z s w ps → Chain z s w qs → ps ≡ qs
  chain_unique w [] [] (ends e) (ends f) = refl
  chain_unique w [] (q ∷ qs) (ends e) (goes f c) = absurd (let k : ◌≡◌ {A = ℕ} 0 1 = cc in omega arith)
  chain_unique w (p ∷ ps) [] (goes e c) (ends f) = absurd (let k : ◌≡◌ {A = ℕ} 0 1 = cc in omega arith)
  chain_unique w (p ∷ ps) (q ∷ qs) (goes e c) (goes f d) =
      let same : p ≡ q = cc in
      let rest : ps ≡ qs = chain_unique (first_link s p) ps qs c (subst (λ x. Chain z s (first_link s x) qs) (sym same) d) in
      cc

  -- places by number: nursery places first, then slots
  code : Place → ℕ
  code (Young p) = p
  code (Old q) = length s.nursery + q

  Within : Place → Type 0
  Within (Young p) = p < length s.nursery
  Within (Old q) = q < z.slots

  -- a place that a word leads to is within the store
  within : (w : ℕ) (p : Place) → leads z s w ≡ Some p → Within p
  unfolding Within
  within w p h = go (place_of w) h
    where
      young : (a : ℕ) (t : Bool) → ltb a (length s.nursery) ≡ t → cond t (Some (Young a)) None ≡ Some p → Within p
      young a true e f = let k : Young a ≡ p = cc in subst Within k (ltb-true _ _ e)
      young a false e f = absurd (let k : ◌≡◌ {A = ℕ} 0 1 = cc in omega arith)

      old : (b : ℕ) (t : Bool) → ltb b z.slots ≡ t → cond t (Some (Old b)) None ≡ Some p → Within p
      old b true e f = let k : Old b ≡ p = cc in subst Within k (ltb-true _ _ e)
      old b false e f = absurd (let k : ◌≡◌ {A = ℕ} 0 1 = cc in omega arith)

      go : (o : Option Place) → in_store z (length s.nursery) o ≡ Some p → Within p
      go None f = absurd (let k : ◌≡◌ {A = ℕ} 0 1 = cc in omega arith)
      go (Some (Young a)) f = young a (ltb a (length s.nursery)) refl f
      go (Some (Old b)) f = old b (ltb b z.slots) refl f

  code_low : (p : Place) → Within p → code p < all_places z s
  unfolding Within code
  code_low (Young a) h = omega arith
  code_low (Old b) h = omega arith

  code_same : (p q : Place) → Within p → Within q → code p ≡ code q → p ≡ q
  unfolding Within code
  code_same (Young a) (Young b) h k e = ap Young e
  code_same (Young a) (Old b) h k e = absurd (omega arith)
  code_same (Old a) (Young b) h k e = absurd (omega arith)
  code_same (Old a) (Old b) h k e = let f : a ≡ b = omega arith in ap Old f

  codes : List Place → List ℕ
  codes ps = map code ps

  -- a place on a chain, and the chain from its link on, which is shorter
  record Onward (ps : List Place) (q : ℕ) : Type 0 where
    place : Place
    rest : List Place
    number : code place ≡ q
    inside : Within place
    shorter : length rest < length ps
    chain : Chain z s (first_link s place) rest

  onward : (w : ℕ) (ps : List Place) (q : ℕ) → Chain z s w ps → has q (codes ps) ≡ true → Onward ps q
  unfolding codes
  onward w [] q (ends e) h = absurd (let k : ◌≡◌ {A = Bool} false true = h in let n : ◌≡◌ {A = ℕ} 0 1 = cc in omega arith)
  onward w (p ∷ ps) q (goes e c) h = go (eqb (code p) q) refl h (onward (first_link s p) ps q c)
    where
      go : (t : Bool) → eqb (code p) q ≡ t → (t || has q (codes ps)) ≡ true → (has q (codes ps) ≡ true → Onward ps q) → Onward (p ∷ ps) q
      go true f g again = record { place = p; rest = ps; number = eqb-true _ _ f; inside = within w p e; shorter = omega arith; chain = c }
      go false f g again = let o = again g in record { place = o.place; rest = o.rest; number = o.number; inside = o.inside; shorter = omega (arith, o.shorter); chain = o.chain }

  -- no place comes twice
  once : (w : ℕ) (ps : List Place) (q : ℕ) → Chain z s w ps → count q (codes ps) ≤ one_if (ltb q (all_places z s))
  unfolding codes
  once w [] q (ends e) = omega arith
  once w (p ∷ ps) q (goes e c) = go (eqb q (code p)) refl (has q (codes ps)) refl (once (first_link s p) ps q c) (onward (first_link s p) ps q c)
    where
      low : (eqb q (code p) ≡ true) → ltb q (all_places z s) ≡ true
      low f = let k : q ≡ code p = eqb-true _ _ f in lt-ltb q (all_places z s) (omega (arith, k, code_low p (within w p e)))

      twice : (eqb q (code p) ≡ true) → Onward ps q → ⊥
      twice f o =
          let same : o.place ≡ p = code_same o.place p o.inside (within w p e) (o.number ∙ eqb-true _ _ f) in
          let rest : o.rest ≡ ps = chain_unique (first_link s p) o.rest ps (subst (λ x. Chain z s (first_link s x) o.rest) same o.chain) c in
          omega (arith, o.shorter, ap length rest)

      go : (t : Bool) → eqb q (code p) ≡ t → (u : Bool) → has q (codes ps) ≡ u → count q (codes ps) ≤ one_if (ltb q (all_places z s)) → (has q (codes ps) ≡ true → Onward ps q) → one_if t + count q (codes ps) ≤ one_if (ltb q (all_places z s))
      go true f true g h o = absurd (twice f (o g))
      go true f false g h o = rw (low f) (omega (arith, hasnt_count q (codes ps) g))
      go false f u g h o = omega (arith, h)

  -- so a chain that ends has no more records than there are places
  chain_short : (w : ℕ) (ps : List Place) → Chain z s w ps → length ps ≤ all_places z s
  unfolding codes
  chain_short w ps c =
      let few : length (codes ps) ≤ length (upto 0 (all_places z s)) = length_by_counts (codes ps) (upto 0 (all_places z s)) (λ q. rw (count_upto q (all_places z s)) (once w ps q c)) in
      omega (arith, few, length_upto 0 (all_places z s), length-map ps code)

pub followed_to_the_end : FollowedToTheEnd
followed_to_the_end z s w ps =
    (follow_sound z s (all_places z s) w ps, λ c. follow_complete z s (all_places z s) w ps (chain_short z s w ps c) c)

-- Tally: a chain followed word by word, and what it adds up to.
use Rattle.std.proofs.Common.{◌≡◌, ℕ, zero, suc, ◌+◌, cond, eqb, ◌⊎◌, List, [], ◌∷◌, ℤ, Some, None, Option, sym, refl, ap, ◌∙◌, inl, inr, add-zero, add_assoc, zero-add, arith}
use Rattle.words.specs.declared.place.Place.{Place}
use Rattle.rules.specs.Rules.{Sizes, Store, Answer, refused, counts, reg, record_at}
use Rattle.rules.specs.Chains.{leads, first_link, follow, stops, then_on, onto_chain, flushes, flush_weight, parts_at, all_places, tally_of, tally_answer, run_tally}
use Rattle.rules.proofs.Following.{followed_to_the_end}
use Rattle.registers.specs.State.{State}
use Rattle.heap.specs.Tallies.{ChainOf, ByChain, answer_tally, flush_count, flush_share, follow_words, tally_with}

-- for n records more, n + 1 words are looked at
pub follow_is : (z : Sizes) (s : Store) (n w : ℕ) → follow z s n w ≡ follow_words z s (suc n) w
follow_is z s zero w = go (leads z s w)
  where
    go : (o : Option Place) → stops o ≡ then_on (follow_words z s zero) s o
    go None = refl
    go (Some p) = refl
follow_is z s (suc n) w = go (leads z s w) (follow_is z s n)
  where
    go : (o : Option Place) → ((w : ℕ) → follow z s n w ≡ follow_words z s (suc n) w) → then_on (follow z s n) s o ≡ then_on (follow_words z s (suc n)) s o
    go None more = refl
    go (Some p) more = ap (onto_chain p) (more (first_link s p))

-- two counts
two : {m n k l : ℕ} → m ≡ n → k ≡ l → counts (m ∷ (k ∷ [])) ≡ counts (n ∷ (l ∷ []))
two {m} {n} {k} {l} e f = ap (λ x. counts (x ∷ (k ∷ []))) e ∙ ap (λ x. counts (n ∷ (x ∷ []))) f

-- nothing is counted before the first word
pub tally_begins : (s : Store) (o : Option (List Place)) → tally_with s 0 0 o ≡ tally_answer s o
tally_begins s None = refl
tally_begins s (Some ps) = two (zero-add (flushes (parts_at s ps))) (zero-add (flush_weight (parts_at s ps)))

-- a word that leads to a record: that is counted, and its link 0 is the next word
pub tally_goes : (z : Sizes) (s : Store) (n g k w : ℕ) (p : Place) → leads z s w ≡ Some p → tally_with s (n + flush_count (record_at s p).plain) (g + flush_share (record_at s p).plain) (follow_words z s k (first_link s p)) ≡ tally_with s n g (follow_words z s (suc k) w)
tally_goes z s n g k w p e = go (follow_words z s k (first_link s p)) ∙ ap (λ o. tally_with s n g (then_on (follow_words z s k) s o)) (sym e)
  where
    go : (o : Option (List Place)) → tally_with s (n + flush_count (record_at s p).plain) (g + flush_share (record_at s p).plain) o ≡ tally_with s n g (onto_chain p o)
    go None = refl
    go (Some ps) = two (add_assoc n (flush_count (record_at s p).plain) (flushes (parts_at s ps))) (add_assoc g (flush_share (record_at s p).plain) (flush_weight (parts_at s ps)))

-- a word that leads nowhere: all is counted
pub tally_ends : (z : Sizes) (s : Store) (n g k w : ℕ) → leads z s w ≡ None → counts (n ∷ (g ∷ [])) ≡ tally_with s n g (follow_words z s (suc k) w)
tally_ends z s n g k w e = two (sym (add-zero n)) (sym (add-zero g)) ∙ ap (λ o. tally_with s n g (then_on (follow_words z s k) s o)) (sym e)

-- one turn of the loop: k words are still to be looked at, and a is the answer
pub tally_turn : (z : Sizes) (s : Store) (n g n₁ g₁ j k w w₁ : ℕ) (p : Place) (part : List ℤ) (a : Answer) → Some p ≡ leads z s w → part ≡ (record_at s p).plain → n₁ ≡ n + flush_count part → g₁ ≡ g + flush_share part → w₁ ≡ first_link s p → suc k ≡ j → tally_with s n g (follow_words z s j w) ≡ a → tally_with s n₁ g₁ (follow_words z s k w₁) ≡ a
tally_turn z s n g n₁ g₁ j k w w₁ p part a at is hn hg hw hk e =
    ap (λ x. tally_with s x g₁ (follow_words z s k w₁)) (hn ∙ ap (λ x. n + flush_count x) is)
    ∙ ap (λ x. tally_with s (n + flush_count (record_at s p).plain) x (follow_words z s k w₁)) (hg ∙ ap (λ x. g + flush_share x) is)
    ∙ ap (λ x. tally_with s (n + flush_count (record_at s p).plain) (g + flush_share (record_at s p).plain) (follow_words z s k x)) hw
    ∙ tally_goes z s n g k w p (sym at)
    ∙ ap (λ x. tally_with s n g (follow_words z s x w)) hk
    ∙ e

-- the chain of register r, as far as it is followed
abbrev followed : State → ℤ → Option (List Place)
followed s r = follow s.sizes s.store (all_places s.sizes s.store) (reg s.store r)

-- the answer is that of the chain, since a chain is followed to its end exactly where it has one
pub by_chain : (s : State) (r : ℤ) (a : Answer) → a ≡ answer_tally s r → ByChain s r a
by_chain s r a e is_open within = go (followed s r) refl
  where
    run : (o : Option (List Place)) → followed s r ≡ o → a ≡ tally_answer s.store o
    run o f =
        e
        ∙ ap (λ y. cond (eqb y 0) (run_tally s.sizes s.store r) (refused 20)) is_open
        ∙ ap (λ t. cond t (tally_answer s.store (followed s r)) (refused 3)) within
        ∙ ap (tally_answer s.store) f

    go : (o : Option (List Place)) → followed s r ≡ o → ((ps : List Place) × ChainOf s r ps × (a ≡ tally_of (parts_at s.store ps))) ⊎ ((a ≡ refused 25) × ((ps : List Place) → ChainOf s r ps → ⊥))
    go (Some ps) f = inl (ps, (followed_to_the_end s.sizes s.store (reg s.store r) ps).0 f, run (Some ps) f)
    go None f = inr (run None f, λ ps c. let ends : followed s r ≡ Some ps = (followed_to_the_end s.sizes s.store (reg s.store r) ps).1 c in let k : ◌≡◌ {A = ℕ} 0 1 = cc in omega arith)

-- Records of a kind in a table, by their meanings.
use Rattle.std.proofs.Common.{◌≡◌, ℕ, ◌<◌, ◌≤◌, List, map, length, get_or, take, set, sym, ap, ◌∙◌, arith}
use Rattle.std.proofs.lemmas.List.{get_or-map, get_or-take, map-set, length-take-le}
use Rattle.kinds.specs.declared.kind.Kind.{Ghosts}
use Rattle.rules.specs.Rules.{Record, no_record}
use Rattle.heap.specs.Meaning.{meaning_of}
use Rattle.heap.specs.Rows.{front}
use Rattle.heap.proofs.Fronts.{take_set_any}

-- records with the same parts are the same
pub same_record : (a b : Record) → a.links ≡ b.links → a.plain ≡ b.plain → a ≡ b
same_record a b e f =
    ap (λ l. record { links = l; plain = a.plain }) e ∙ ap (λ p. record { links = b.links; plain = p }) f

-- record i replaced by y, whose meaning is made of that of the record there
pub record_put : {X : Type 0} (g : Ghosts X) (xs : List X) (i : ℕ) (d y : X) (f : Record → Record) → i < length xs → meaning_of g y ≡ f (meaning_of g (get_or xs i d)) → map (meaning_of g) (set xs i y) ≡ set (map (meaning_of g) xs) i (f (get_or (map (meaning_of g) xs) i no_record))
record_put g xs i d y f low e =
    map-set (meaning_of g) xs i y
    ∙ ap (set (map (meaning_of g) xs) i) (e ∙ ap f (sym (get_or-map (meaning_of g) xs i d no_record low)))

-- the same of the first n records
pub record_set : {X : Type 0} (g : Ghosts X) (n : ℕ) (xs : List X) (i : ℕ) (d y : X) (f : Record → Record) → i < n → n ≤ length xs → meaning_of g y ≡ f (meaning_of g (get_or xs i d)) → front (meaning_of g) n (set xs i y) ≡ set (front (meaning_of g) n xs) i (f (get_or (front (meaning_of g) n xs) i no_record))
record_set g n xs i d y f low long e =
    ap (map (meaning_of g)) (take_set_any n xs i y)
    ∙ record_put g (take n xs) i d y f (omega (arith, low, length-take-le n xs long)) (e ∙ ap (λ x. f (meaning_of g x)) (sym (get_or-take n xs i d low)))

-- The kind that the first line of a text names, and the second one of bounds.
use Rattle.std.proofs.Common.{◌≡◌, [], ◌∷◌, ◌++◌, Some, refl}
use Rattle.std.specs.Prelude.{codes}
use Rattle.mdp_text.specs.Lines.{next_line}
use Rattle.mdp_command.specs.{Kinds.{chosen}, Meanings.{kind_of}, declared.kind.CertificateKind.TheVariants.{Exact, Discounted, Bounds, DiscountedBounds, SubsystemBounds}}

of_discount : kind_of (codes "mdp-discount 1" ++ 10 ∷ codes "claim") ≡ Discounted
of_discount = refl

of_bounds : kind_of (codes "mdp-bounds 1" ++ 10 ∷ []) ≡ Bounds
unfolding next_line
of_bounds = refl

of_discounted_bounds : kind_of (codes "mdp-bounds 1" ++ 10 ∷ codes "claim min discount " ++ 10 ∷ []) ≡ DiscountedBounds
unfolding next_line
of_discounted_bounds = refl

of_other_bounds : kind_of (codes "mdp-bounds 1" ++ 10 ∷ codes "claim min discounted " ++ 10 ∷ []) ≡ Bounds
unfolding next_line
of_other_bounds = refl

of_subsystem_bounds : kind_of (codes "mdp-bounds 1" ++ 10 ∷ codes "claim max witness " ++ 10 ∷ []) ≡ SubsystemBounds
unfolding next_line
of_subsystem_bounds = refl

of_values : kind_of (codes "mdp-certificate 2" ++ 10 ∷ []) ≡ Exact
of_values = refl

-- another version, a line that isn't ended, and no line at all
other_version : kind_of (codes "mdp-discount 2" ++ 10 ∷ []) ≡ Exact
other_version = refl

not_ended : kind_of (codes "mdp-bounds 1") ≡ Exact
not_ended = refl

longer_line : kind_of (codes "mdp-bounds 10" ++ 10 ∷ []) ≡ Exact
longer_line = refl

no_line : kind_of [] ≡ Exact
no_line = refl

-- a kind that is asked for comes before that of the text
asked_for : chosen (Some Exact) (codes "mdp-bounds 1" ++ 10 ∷ []) ≡ Exact
asked_for = refl

-- but bounds that are asked for are of the kind that their claim names
asked_for_bounds : chosen (Some Bounds) (codes "mdp-bounds 1" ++ 10 ∷ codes "claim max discount " ++ 10 ∷ []) ≡ DiscountedBounds
unfolding next_line
asked_for_bounds = refl

-- What the laws of reading speak of, on small texts.
use Rattle.std.proofs.Common.{◌≡◌, [], ◌∷◌, refl}
use Rattle.std.specs.Prelude.{codes}
use Rattle.mdp_drn.specs.{Labels.{labels_in}, Lines.{content}, Laws.{contents_of, labels_on, model_part, moved, seen}}

-- blanks, tabs and one CR at the ends
framed : content (codes "\tstate 0 init\t \r") ≡ codes "state 0 init"
framed = refl

-- a CR before a blank isn't at the line's end
kept_return : content (codes "a\r ") ≡ codes "a\r"
kept_return = refl

without_comments : contents_of (codes "// by hand" ∷ codes " //" ∷ [] ∷ codes "\t0 : 1\r" ∷ []) ≡ [] ∷ codes "0 : 1" ∷ []
without_comments = refl

behind_header : model_part (codes "@type: MDP" ∷ codes "@model" ∷ codes "state 0" ∷ codes "action" ∷ []) ≡ codes "state 0" ∷ codes "action" ∷ []
behind_header = refl

spelled : labels_on (codes "state 0[1]\"is done\" init init") ≡ codes "is done" ∷ codes "init" ∷ codes "init" ∷ []
unfolding labels_in
spelled = refl

no_state : labels_on (codes "action init") ≡ []
no_state = refl

each_once : seen [] (codes "b" ∷ codes "a" ∷ codes "b" ∷ codes "c" ∷ []) ≡ codes "b" ∷ codes "a" ∷ codes "c" ∷ []
each_once = refl

-- a comment behind two lines
second_stays : moved 2 2 ≡ 2
second_stays = refl

third_moves : moved 2 3 ≡ 4
third_moves = refl

use Rattle.std.proofs.Common.{◌≡◌, ℕ, List, [], ◌∷◌, ◌++◌, decimal, codes, append_assoc, refl}
use Rattle.mdp_spec.specs.Mdp.{state_at}
use Rattle.mdp_drn.specs.{Writing.{line, joined, labels_text}, Pieces.{zeros_of}}
use Rattle.mdp_drn.proofs.TextWritten.Appending.{piece-then, piece-last, front-more}
use Rattle.mdp_drn.proofs.state_text.push_state_line.Goals as goal

one-line : (front inside labels : List ℕ)
    → ((((front ++ codes " [") ++ inside) ++ codes "]") ++ labels) ++ 10 ∷ [] ≡ line ((front ++ ((codes " [" ++ inside) ++ codes "]")) ++ labels)
one-line front inside labels = simp append_assoc refl

pub returns-clause-text : goal.returns-clause-text
returns-clause-text c =
    let old = c.args.out.now.items in
    let text0 : List ℕ = codes "state " ++ decimal c.args.s ++ codes " [" in
    let fact1 =
    piece-then old c.push_between.new.out.items c.push_zeros.new.out.items text0 (joined (codes ", ") (zeros_of c.args.model.now))
    c.in_ok-push_between.ensures.text c.in_ok-push_zeros.ensures.text in
    let text1 : List ℕ = text0 ++ (joined (codes ", ") (zeros_of c.args.model.now)) in
    let fact2 =
    piece-then old c.push_zeros.new.out.items c.push_bytes.new.out.items text1 (codes "]")
    fact1 c.in_ok-push_bytes.ensures.text in
    let text2 : List ℕ = text1 ++ (codes "]") in
    let fact3 =
    piece-then old c.push_bytes.new.out.items c.push_labels.new.out.items text2 (labels_text c.args.model.now.labels (state_at c.args.model.now c.args.s).labels)
    fact2 c.in_ok-push_labels.ensures.text in
    let text3 : List ℕ = text2 ++ (labels_text c.args.model.now.labels (state_at c.args.model.now c.args.s).labels) in
    piece-last c.push_bytes-2.result old c.push_labels.new.out.items c.push_bytes-2.new.out.items text3 (10 ∷ []) _
    fact3 c.push_bytes-2.ensures.text
    (one-line (codes "state " ++ decimal c.args.s) (joined (codes ", ") (zeros_of c.args.model.now)) (labels_text c.args.model.now.labels (state_at c.args.model.now c.args.s).labels))

pub returns-in_err-push_zeros-clause-front : goal.returns-in_err-push_zeros-clause-front
returns-in_err-push_zeros-clause-front c = front-more _ _ _ c.push_between.ensures.front c.push_zeros.ensures.front

pub returns-in_err-push_bytes-clause-front : goal.returns-in_err-push_bytes-clause-front
returns-in_err-push_bytes-clause-front c = front-more _ _ _ (front-more _ _ _ c.push_between.ensures.front c.push_zeros.ensures.front) c.push_bytes.ensures.front

pub returns-in_err-push_labels-clause-front : goal.returns-in_err-push_labels-clause-front
returns-in_err-push_labels-clause-front c =
    let inside = front-more _ _ _ c.push_between.ensures.front c.push_zeros.ensures.front in
    front-more _ _ _ (front-more _ _ _ inside c.push_bytes.ensures.front) c.push_labels.ensures.front

pub returns-clause-front : goal.returns-clause-front
returns-clause-front c =
    let inside = front-more _ _ _ c.push_between.ensures.front c.push_zeros.ensures.front in
    front-more _ _ _ (front-more _ _ _ (front-more _ _ _ inside c.push_bytes.ensures.front) c.push_labels.ensures.front) c.push_bytes-2.ensures.front

use Rattle.std.proofs.Common.{◌≡◌, ℕ, List, ◌++◌, length}
use Rattle.mdp_drn.specs.Feeding.{HasRead, Stays}
use Rattle.mdp_drn.proofs.feed.Feed.push.Given as goal

abbrev pub invariant-lines : goal.invariant-lines
invariant-lines l = record {
  rule : l.self.rule ≡ l.initial.self.rule;
  stays : Stays l.initial.self.stand l.self.stand;
  fed : (before : List ℕ) → HasRead l.initial.self before → (so_far : List ℕ) × (so_far ++ l.rest ≡ before ++ l.piece) × HasRead l.self so_far;
}

abbrev pub decreases-lines : goal.decreases-lines
decreases-lines l = length l.rest

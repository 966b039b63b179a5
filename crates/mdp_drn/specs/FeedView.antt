-- What each feed keeps.
use Rattle.std.specs.Prelude.{◌≡◌, ◌≤◌, length, None}
use Rattle.mdp_drn.specs.{declared.feed.Feed.TheInside.{Inside}, BodyView.{IsOneLine}, DocumentView.{IsPart}}

pub record IsFeed (f : Inside) : Type 0 where
  pub short : length f.tail.items ≤ 65536
  pub plain : IsOneLine f.tail.items
  pub part : f.refused ≡ None → IsPart f.document.part

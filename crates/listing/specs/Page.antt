-- A lent buffer whose front is written piece by piece.
use Rattle.std.specs.Prelude.{◌≡◌, ℕ, List, ◌++◌, ◌+◌, ◌≤◌, length, take, drop}
use Rattle.listing.specs.declared.Page.{Page}

-- there is room for some bytes more
abbrev pub HasRoom : Page → List ℕ → Type 0
HasRoom p w = p.len + length w ≤ length p.out.now

-- some bytes were written behind the front, and nothing else: q is p afterwards, and lends the same buffer
pub record Adds (p : Page) (w : List ℕ) (q : Page) : Type 0 where
  pub same_buffer : q.out.ghost_name ≡ p.out.ghost_name
  pub longer : q.len ≡ p.len + length w
  pub written : q.out.now ≡ take p.len p.out.now ++ (w ++ drop (p.len + length w) p.out.now)

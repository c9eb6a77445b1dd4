-- The queue as a ring: so many words of the scratch, of which the goals stand from the front on, round its end.
use Rattle.std.specs.Prelude.{ℕ, ◌+◌, ◌≤◌, ◌<◌, ◌≡◌, List, [], ◌∷◌, ◌++◌, length, get_or, set}
use Rattle.term.specs.States.{round, ring}
use Rattle.term.specs.Frames.{Only}

-- The ring lies in the scratch, and its front in the ring.
pub record RingOk (s : List ℕ) (queue size front : ℕ) : Type 0 where
  pub inside : queue + size ≤ length s
  pub front_inside : front < size

-- A goal has joined the end: the one word that is set, and what it makes of the queue.
pub record Pushed (s s' : List ℕ) (queue size front active goal : ℕ) : Type 0 where
  pub words : s' ≡ set s (queue + round size (front + active)) goal
  pub only : Only queue (queue + size) s s'
  pub items : ring s' queue size front (active + 1) ≡ ring s queue size front active ++ (goal ∷ [])

-- The front passed on: what stood there was the first, and the rest follows from the new front.
pub record Passed (size front front' : ℕ) : Type 0 where
  pub place : front' ≡ round size (front + 1)
  pub front_inside : front' < size
  pub items : (s : List ℕ) (queue n : ℕ) → n < size
      → ring s queue size front (n + 1) ≡ get_or s (queue + front) 0 ∷ ring s queue size front' n

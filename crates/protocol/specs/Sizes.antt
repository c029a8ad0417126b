-- The sizes that a group is made with. Assumes nothing.
--
-- sized_test   3 to 8 workers, 64 cells a worker in each of three tables, and 16 to 4,096 message places
-- Sized        the same as facts
use Rattle.std.specs.Prelude.{◌≡◌, ℕ, ◌*◌, ◌≤◌, Bool, ◌&&◌, ◌==◌, nat_le}
use Rattle.protocol.specs.Limits.{lines, workers_min, workers_max, messages_min, messages_max}

abbrev pub sized_test : ℕ → ℕ → ℕ → ℕ → ℕ → Bool
sized_test workers hand accepted learned places =
    nat_le workers_min workers && (nat_le workers workers_max && (hand == lines * workers && (accepted == lines * workers
    && (learned == lines * workers && (nat_le messages_min places && nat_le places messages_max)))))

pub record Sized (workers hand accepted learned places : ℕ) : Type 0 where
  pub few : workers_min ≤ workers
  pub many : workers ≤ workers_max
  pub hands : hand ≡ lines * workers
  pub accepteds : accepted ≡ lines * workers
  pub learneds : learned ≡ lines * workers
  pub least : messages_min ≤ places
  pub most : places ≤ messages_max

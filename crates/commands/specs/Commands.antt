-- Commands written as text. Assumes nothing.
--
-- Makes g f h           the function f, called at a number, makes what h does; MakesOfTwo at two numbers
-- one_in h, two_in h    what h makes of the number, or of the two numbers, in the next fields
-- propose_in            a Propose: the worker, the line number, and a pack line
-- step_in p x u         the step with the letter x, with its numbers in the next fields of u
-- command_in u          a command in the next fields of u
-- command_of bs         the command that the line bs writes, with no field after it
-- workers_of f          the number of workers, 3 or 4, that the field f writes; workers_in u in the next field
-- roster_of f           the kind of roster that the field f writes, 1 for the plain one; roster_in u in the next field
-- setup_in u            `G`, the number of workers, and the kind of roster
-- setup_of bs           the number of workers of a group that the line bs sets up, with no field after it
-- Letters are bytes: C 67, D 68, F 70, G 71, L 76, P 80, Q 81, R 82, S 83, V 86, X 88.
use Rattle.std.specs.Prelude.{◌≡◌, ℕ, cond, ◌||◌, List, Some, None, Ok, Err, Option, Result, ◌==◌}
use Rattle.std.specs.Fn.{Once}
use Rattle.pack.specs.Stored.{stored_of}
use Rattle.pack.specs.declared.stored.StoredPackLine.{StoredPackLine}
use Rattle.packtext.specs.Written.{pack_line_in}
use Rattle.protocol.specs.declared.step.Step.{Step}
use Rattle.protocol.specs.declared.step.Step.TheVariants.{Found, Read, Lead, Prepare, Propose, Carry, Reseat, Deliver, Lose}
use Rattle.text.specs.declared.fields.BadField.{BadField}
use Rattle.text.specs.Reading.{Unread, Taken, take_by, and_then, done, whole_line, letter_in, bad_at}
use Rattle.text.specs.Texts.{number_of}
use Rattle.commands.specs.declared.command.Command.{Command}
use Rattle.commands.specs.declared.command.Command.TheVariants.{Do, Sheet}

abbrev pub Makes : {F A : Type 0} → Once F (ℕ × Unit {0}) A → F → (ℕ → A) → Type 0
Makes {A = A} g f h = (n : ℕ) (r : A) → g.post f (n, tt) r → r ≡ h n

abbrev pub MakesOfTwo : {F A : Type 0} → Once F (ℕ × (ℕ × Unit {0})) A → F → (ℕ → ℕ → A) → Type 0
MakesOfTwo {A = A} g f h = (m n : ℕ) (r : A) → g.post f (m, (n, tt)) r → r ≡ h m n

abbrev pub one_in : {A : Type 0} → (ℕ → A) → Unread → Taken A
one_in h u = and_then (take_by number_of u) (λ n. done (Ok (h n)))

abbrev pub two_in : {A : Type 0} → (ℕ → ℕ → A) → Unread → Taken A
two_in h u = and_then (take_by number_of u) (λ m v. and_then (take_by number_of v) (λ n. done (Ok (h m n))))

abbrev pub propose_in : Unread → Taken (Step StoredPackLine)
propose_in u =
    and_then (take_by number_of u) (λ w v. and_then (take_by number_of v) (λ k t. and_then (pack_line_in t) (λ l. done (Ok (Propose w k (stored_of l))))))

-- by the letter: F, R, L, P, X with one number, D, C, S with two, V; any other is bad at its place p
abbrev pub step_in : ℕ → ℕ → Unread → Taken (Step StoredPackLine)
step_in p x u =
    cond (x == 70) (one_in Found u)
    (cond (x == 82) (one_in Read u)
    (cond (x == 76) (one_in Lead u)
    (cond (x == 80) (one_in Prepare u)
    (cond (x == 88) (one_in Lose u)
    (cond (x == 68) (two_in Deliver u)
    (cond (x == 67) (two_in Carry u)
    (cond (x == 83) (two_in Reseat u)
    (cond (x == 86) (propose_in u) (done (Err (bad_at p)) u)))))))))

-- by the letter: Q, or a step
abbrev pub by_letter : ℕ → ℕ → Unread → Taken Command
by_letter p x u = cond (x == 81) (one_in Sheet u) (and_then (step_in p x u) (λ s. done (Ok (Do s))))

abbrev pub command_in : Unread → Taken Command
command_in u = and_then (take_by letter_in u) (by_letter u.place)

abbrev pub command_of : List ℕ → Result Command BadField
command_of bs = whole_line command_in bs

abbrev pub workers_of : List ℕ → Option ℕ
workers_of f = elim (number_of f) [ None ↦ None | Some n ↦ cond (n == 3 || n == 4) (Some n) None ]

abbrev pub workers_in : Unread → Taken ℕ
workers_in u = take_by workers_of u

abbrev pub roster_of : List ℕ → Option Unit
roster_of f = elim (number_of f) [ None ↦ None | Some k ↦ cond (k == 1) (Some tt) None ]

abbrev pub roster_in : Unread → Taken Unit
roster_in u = take_by roster_of u

-- by the letter; any but G is bad at its place p
abbrev pub setup_by : ℕ → ℕ → Unread → Taken ℕ
setup_by p x u = cond (x == 71) (and_then (workers_in u) (λ n v. and_then (roster_in v) (λ _. done (Ok n)))) (done (Err (bad_at p)) u)

abbrev pub setup_in : Unread → Taken ℕ
setup_in u = and_then (take_by letter_in u) (setup_by u.place)

abbrev pub setup_of : List ℕ → Result ℕ BadField
setup_of bs = whole_line setup_in bs

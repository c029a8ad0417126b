-- A turn applies one line more to the table, which was emptied first; where the line is missing there is no such list of lines.
use Rattle.std.proofs.Common.{◌≡◌, ◌+◌, ◌-◌, length, ap, ◌∙◌, arith, rules}
use Rattle.keylines.specs.Limits.{capacity_of}
use Rattle.keylines.specs.Sheets.{sheet_of}
use Rattle.keys.specs.Views.{sheet_now, table_capacity}
use Rattle.protocol.specs.Runs.{book_to}
use Rattle.group.specs.Views.{store_of}
use Rattle.books.proofs.Filling.{fill_more, fill_gap}
use Rattle.books.proofs.channels.fill.Goals as goal
use Rattle.books.proofs.channels.fill.Goals.{in-Some, in_default}

pub loop-k-preserved : goal.loop-k-preserved
loop-k-preserved g c =
    let eq = g.K.Key.alike in
    let size = table_capacity c.clear.new.self in
    let k = c.loop-k.k in
    let before = c.loop-k.table in
    let after = c.match-line.table in
    let inv = c.loop-k.invariant in
    elim c.match-line.branch [
      | in-Some w ↦ record {
        within = omega arith;
        filled = λ m. fill_more eq size (store_of c.args.group.now m) c.args.worker k (k + 1 - 1) (table_capacity before) (sheet_now before c.loop-k.sheet) (sheet_now after c.match-line.sheet) w.in-Some.line
            c.loop-k.auto.k (omega arith) (inv.filled m) (w.in-Some.ensures m) (ap capacity_of inv.slice.size) (search rules);
        slice = search rules;
      }
      | in_default w ↦ record {
        within = omega arith;
        filled = λ m. fill_gap eq size (store_of c.args.group.now m) c.args.worker k (k + 1 - 1) (sheet_now after c.match-line.sheet) c.loop-k.auto.k (omega arith) (w.in_default.ensures m);
        slice = search rules;
      }
    ]

pub returns-clause-after : goal.returns-clause-after
returns-clause-after g c m ls e =
    let same : c.loop-k.k - 1 ≡ c.args.to = omega arith in
    let size : table_capacity c.clear.new.self ≡ table_capacity c.args.table.now = ap (λ xs. capacity_of (length xs)) c.clear.ensures.same in
    c.loop-k.invariant.filled m ls (ap (book_to (store_of c.args.group.now m) c.args.worker) same ∙ e) ∙ ap (λ n. sheet_of g.K.Key.alike n ls) size

pub returns-after-line-clause-after : goal.returns-after-line-clause-after
returns-after-line-clause-after g c m ls e =
    let eq = g.K.Key.alike in
    let first = c.clear.new.self in
    let k = c.loop-k.k in
    let before = c.loop-k.table in
    let after = c.match-line.table in
    let inv = c.loop-k.invariant in
    let size : table_capacity first ≡ table_capacity c.args.table.now = ap (λ xs. capacity_of (length xs)) c.clear.ensures.same in
    let filled : sheet_now after c.match-line.sheet ≡ sheet_of eq (table_capacity first) ls =
    elim c.match-line.branch [
      | in-Some w ↦ fill_more eq (table_capacity first) (store_of c.args.group.now m) c.args.worker k c.args.to (table_capacity before) (sheet_now before c.loop-k.sheet) (sheet_now after c.match-line.sheet) w.in-Some.line
          c.loop-k.auto.k (omega arith) (inv.filled m) (w.in-Some.ensures m) (ap capacity_of inv.slice.size) (search rules) ls e
      | in_default w ↦ fill_gap eq (table_capacity first) (store_of c.args.group.now m) c.args.worker k c.args.to (sheet_now after c.match-line.sheet) c.loop-k.auto.k (omega arith) (w.in_default.ensures m) ls e
    ] in
    filled ∙ ap (λ n. sheet_of eq n ls) size

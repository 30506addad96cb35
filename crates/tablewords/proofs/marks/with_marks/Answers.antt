use Rattle.std.proofs.Common.{codes, rules}
use Rattle.std.specs.Str.{bytes_eq}
use Rattle.tablewords.specs.States.{is_mark}
use Rattle.tablewords.proofs.MarkSteps.{all_texts, any_text}
use Rattle.tablewords.proofs.marks.with_marks.Goals as goal

pub returns-then-not-all_marks : goal.returns-then-not-all_marks
returns-then-not-all_marks c = search (rules, all_texts is_mark c.args.marks.now)

pub returns : goal.returns
returns c =
    let ms = c.args.marks.now in
    search (rules, all_texts is_mark ms, any_text (bytes_eq (codes "init")) ms, any_text (bytes_eq (codes "always")) ms, any_text (bytes_eq (codes "hot")) ms, any_text (bytes_eq (codes "step")) ms, any_text (bytes_eq (codes "next")) ms)

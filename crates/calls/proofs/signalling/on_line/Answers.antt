-- `calls::signalling::on_line` meets its contract: the step that is handed on is that of the event.
use borrow.Author.Rules.{rules}
use Rattle.calls.proofs.Events.{moves}
use Rattle.calls.proofs.signalling.on_line.Goals as goal

pub returns-in-Begin : goal.returns-in-Begin
returns-in-Begin c = c.on_line_by.ensures _ (moves _) (λ line r step. rw c.in-Begin.is (search rules))

pub returns-in-InitAnswer : goal.returns-in-InitAnswer
returns-in-InitAnswer c = c.on_line_by-in-InitAnswer.ensures _ (moves _) (λ line r step. rw c.in-InitAnswer.is (search rules))

pub returns-in-FinalAnswer : goal.returns-in-FinalAnswer
returns-in-FinalAnswer c = c.on_line_by-in-FinalAnswer.ensures _ (moves _) (λ line r step. rw c.in-FinalAnswer.is (search rules))

pub returns-in-Error : goal.returns-in-Error
returns-in-Error c = c.on_line_by-in-Error.ensures _ (moves _) (λ line r step. rw c.in-Error.is (search rules))

pub returns-in-GiveUp : goal.returns-in-GiveUp
returns-in-GiveUp c = c.on_line_by-in-GiveUp.ensures _ (moves _) (λ line r step. rw c.in-GiveUp.is (search rules))

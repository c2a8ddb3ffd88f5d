-- `calls::tunnels::on_tunnel` meets its contract: the step that is handed on is that of the event.
use borrow.Author.Rules.{rules}
use Rattle.calls.proofs.Events.{tunnels}
use Rattle.calls.proofs.tunnels.on_tunnel.Goals as goal

pub returns-in-ChildDeleted : goal.returns-in-ChildDeleted
returns-in-ChildDeleted c = c.on_tunnel_by.ensures _ (tunnels _) (λ line r step. rw c.in-ChildDeleted.is (search rules))

pub returns-in-IkeDelete : goal.returns-in-IkeDelete
returns-in-IkeDelete c = c.on_tunnel_by-in-IkeDelete.ensures _ (tunnels _) (λ line r step. rw c.in-IkeDelete.is (search rules))

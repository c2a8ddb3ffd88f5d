-- `text::laws` meets its contract: each law is proved below proofs/.
use Rattle.text.proofs.Texts.{read_text, write_text, read_halves, text_halves}
use Rattle.text.proofs.laws.Goals as goal

pub returns : goal.returns
returns c = record { read_text = read_text; write_text = write_text; read_halves = read_halves; text_halves = text_halves }

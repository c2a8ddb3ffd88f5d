-- What the definitions give on examples, each beside what the documents say of it; the function `examples` promises it.
use Rattle.std.specs.Prelude.{ℕ, List, map, ◌≡◌}
use Rattle.rules.specs.Answer.{numbers_of}
use Rattle.examples.specs.Computed.{got, said}
use Rattle.examples.specs.Computed as Computed
use Rattle.examples.specs.FormExamples as FormExamples
use Rattle.examples.specs.HoldExamples as HoldExamples
use Rattle.examples.specs.LayoutExamples as LayoutExamples
use Rattle.examples.specs.LifeExamples as LifeExamples
use Rattle.examples.specs.PacketExamples as PacketExamples
use Rattle.examples.specs.PhaseExamples as PhaseExamples
use Rattle.examples.specs.RefusalExamples as RefusalExamples
use Rattle.examples.specs.SelectionExamples as SelectionExamples
use Rattle.examples.specs.SoundExamples as SoundExamples
use Rattle.examples.specs.Starred as Starred
use Rattle.examples.specs.TableExamples as TableExamples

pub record Examples : Type 0 where
  -- document 01's starred examples
  pub starred : map Starred.starred_got Starred.starred ≡ map Starred.starred_said Starred.starred
  -- 'Life of a line' and 'Listing of one tenant': the histories, the numbers of each action, every event in every phase
  pub lives : map got LifeExamples.lives ≡ map said LifeExamples.lives
  pub actions : map numbers_of LifeExamples.actions ≡ LifeExamples.action_numbers
  pub phases : map PhaseExamples.phase_got PhaseExamples.phases ≡ map PhaseExamples.phase_said PhaseExamples.phases
  -- 'Choosing a gateway'
  pub selections : map got SelectionExamples.selections ≡ map said SelectionExamples.selections
  -- 'Refusal numbers': the lowest that applies, and the ranges for 8
  pub lowest : map got RefusalExamples.lowest ≡ map said RefusalExamples.lowest
  pub ranges : map got RefusalExamples.ranges ≡ map said RefusalExamples.ranges
  -- well-formed and ill-formed texts and packets, and children
  pub forms : map got FormExamples.forms ≡ map said FormExamples.forms
  -- the calls without a table
  pub packets : map PacketExamples.packet_got PacketExamples.packets ≡ map PacketExamples.packet_said PacketExamples.packets
  -- holds, and those that histories leave
  pub holdings : map got HoldExamples.holdings ≡ map said HoldExamples.holdings
  pub kept : map HoldExamples.kept_got HoldExamples.kept ≡ map HoldExamples.kept_said HoldExamples.kept
  -- lines on both sides of each condition of a sound one
  pub sounds : map SoundExamples.sound_got SoundExamples.sounds ≡ map SoundExamples.sound_said SoundExamples.sounds
  -- whole tables, sound and not
  pub tables : map TableExamples.table_got TableExamples.tables ≡ map TableExamples.table_said TableExamples.tables
  -- octets as docs/TABLE.md and the documents lay them down
  pub layouts : map LayoutExamples.layout_got LayoutExamples.layouts ≡ map LayoutExamples.layout_said LayoutExamples.layouts
  -- the numbers that examples compute are the definitions' own
  pub evaluated : (l : List ℕ) → Computed.evaluated l ≡ l

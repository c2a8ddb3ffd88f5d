-- `rules::claims` meets its contract: each claim is proved below proofs/.
use Rattle.response.proofs.Round.{write_read, read_write}
use Rattle.response.proofs.Writing.{accepted, response_fits}
use Rattle.rules.proofs.After.{timed_after}
use Rattle.rules.proofs.Allowed.{row_allowed}
use Rattle.rules.proofs.Authenticated.{live_authenticated, sure_succeeded}
use Rattle.rules.proofs.Chooses.{chosen_first, country_chooses, reply_written, start_chooses}
use Rattle.rules.proofs.Histories.{history_sound, history_sound_from}
use Rattle.rules.proofs.Isolation.{empty_good, isolation, isolation_from}
use Rattle.rules.proofs.Numbers.{answer_count}
use Rattle.rules.proofs.PhaseAfter.{phase_after}
use Rattle.rules.proofs.Refused.{refusal_leaves, refusal_range, accepted_exactly, refused_exactly, unsound_refused}
use Rattle.rules.proofs.Rooms.{answer_room}
use Rattle.rules.proofs.Runs.{closed_zero, run_slots, run_sound, taken_over_clean, taken_over_listed}
use Rattle.rules.proofs.Timed.{passed_exactly, stops_address, stops_country, stops_start, timed_run, times_rise}
use Rattle.rules.proofs.Tunnels.{tunnels_deleted, tunnels_live, tunnels_made}
use Rattle.rules.proofs.Untouched.{length_kept, listing_leaves, others_untouched}
use Rattle.rules.proofs.Views.{room_exactly}
use Rattle.rules.proofs.claims.Goals as goal

pub returns : goal.returns
returns c = record {
  accepted_exactly = accepted_exactly;
  refused_exactly = refused_exactly;
  refusal_range = refusal_range;
  room_exactly = room_exactly;
  unsound_refused = unsound_refused;
  refusal_leaves = refusal_leaves;
  empty_good = empty_good;
  run_sound = run_sound;
  run_slots = run_slots;
  timed_run = timed_run;
  start_chooses = λ tenant line time g text room l x s t q. start_chooses tenant line time l x g text room s t q;
  country_chooses = λ tenant line time replied networks text room l x s f t q e. country_chooses tenant line time l x replied networks text room s f t q e;
  stops_start = λ tenant line time g text room l x s t q. stops_start tenant line time l x s g text room t q;
  stops_country = λ tenant line time replied networks text room l x s f t q e. stops_country tenant line time l x s f e replied networks text room t q;
  stops_address = λ tenant line time list l x s f t e. stops_address tenant line time l x s f e list t;
  passed_exactly = λ tenant line time list l x f t e. passed_exactly tenant line time l x f e list t;
  chosen_first = λ tenant line time list l x f k a t e at. chosen_first tenant line time l x list f k a t e at;
  reply_written = λ tenant line time parameters nas room i l x t owes. reply_written tenant line time l x parameters nas room i t owes;
  tunnels_live = tunnels_live;
  tunnels_made = λ tenant line time spi session l x t. tunnels_made tenant line time spi l x session t;
  tunnels_deleted = tunnels_deleted;
  live_authenticated = live_authenticated;
  sure_succeeded = sure_succeeded;
  timed_after = timed_after;
  phase_after = phase_after;
  row_allowed = row_allowed;
  times_rise = times_rise;
  others_untouched = others_untouched;
  listing_leaves = listing_leaves;
  length_kept = length_kept;
  eap_round = record {
    write_read = λ i p n room e. write_read i p n room (accepted i p n room e);
    read_write = read_write;
    response_fits = response_fits;
  };
  closed_zero = closed_zero;
  taken_over_clean = taken_over_clean;
  taken_over_listed = taken_over_listed;
  answer_count = answer_count;
  answer_room = answer_room;
  history_sound = history_sound;
  history_sound_from = history_sound_from;
  isolation = isolation;
  isolation_from = isolation_from;
}

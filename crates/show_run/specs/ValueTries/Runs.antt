-- What the tries of values come to.
use Rattle.std.specs.Prelude.{ℕ, ◌≡◌, ◌&&◌, if◌then◌else◌, Bool, [], Result, Ok, Err}
use Rattle.module_text.specs.TextReader.Refusal.{Refusal}
use Rattle.session_text.specs.Canonical.{IsLawful}
use Rattle.session_text.specs.declared.sessions.Session.{Session}
use Rattle.tripos_machine.specs.Boot.{boot}
use Rattle.tripos_machine.specs.Runs.{end_of_run}
use Rattle.tripos_machine.specs.State.{steps_of, stop_of}
use Rattle.tripos_machine.specs.Step.{Stepped, run}
use Rattle.show_run.specs.ValueTries.Settings.{is_in_range, is_there, session_with}
use Rattle.show_run.specs.declared.value_tries.outcomes.Ending.TheVariants.{Stopped, NoBoot, NoSession}
use Rattle.show_run.specs.declared.value_tries.outcomes.Try.{Try}
use Rattle.show_run.specs.declared.value_tries.settings.Setting.{Setting}

-- a run of a machine came to its console bytes and its stop
abbrev pub ended_try : ℕ → Stepped → Try
ended_try value x = record {
  value = value;
  steps = steps_of x.state;
  outcome = record { bytes = x.bytes; ending = Stopped (end_of_run (stop_of x.state)) };
}

-- a session that does not boot
abbrev pub refused_try : ℕ → Refusal → Try
refused_try value r = record { value = value; steps = 0; outcome = record { bytes = []; ending = NoBoot r.line r.code } }

-- the run of a machine, where its session boots
abbrev pub booted_try : ℕ → ℕ → Result Stepped Refusal → Try
booted_try value go (Ok x) = ended_try value (run go x.state)
booted_try value go (Err r) = refused_try value r

-- there is no session with the value
abbrev pub no_session : ℕ → Try
no_session value = record { value = value; steps = 0; outcome = record { bytes = []; ending = NoSession } }

-- whether there is one: the session has what is set, and may have such a value there
abbrev pub has_session : Setting → Session → ℕ → Bool
has_session setting s value = is_there setting s && is_in_range setting value

-- a session with the value is booted and run
abbrev pub session_try : ℕ → Session → Try
session_try value s = booted_try value s.go (boot s)

-- the try of a value: the run of the session with this value, if there is one
abbrev pub try_of : Setting → Session → ℕ → Try
try_of setting s value =
    if has_session setting s value then session_try value (session_with setting value s) else no_session value

-- another session that is lawful, and of which each try comes to the same
pub record SameTries (setting : Setting) (s t : Session) : Type 0 where
  -- it is lawful
  pub lawful : IsLawful t
  -- a try of it is one of the other
  pub same : (value : ℕ) → try_of setting t value ≡ try_of setting s value

pub mod CallersTask
pub mod SavedFrames
pub mod CodedAnswers
pub mod MadeSwitches
pub mod MadeCoroutine
pub mod GoneCoroutine
pub mod DeletedCoroutine

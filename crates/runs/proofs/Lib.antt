pub mod SceneSteps
pub mod SoakSteps
pub mod TrafficSteps
pub mod DriveSteps
pub mod MarkSteps
pub mod LoggedSteps

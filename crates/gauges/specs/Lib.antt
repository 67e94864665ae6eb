pub mod Exact
pub mod Exacts
pub mod SceneDistance
pub mod SceneLaws
pub mod SceneMeans
pub mod Scenes

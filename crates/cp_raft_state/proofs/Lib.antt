pub mod Progresses
pub mod Places
pub mod Ready
pub mod Configs
pub mod OneMore
pub mod OwnSnapshots

pub mod Handing
pub mod Heading

pub mod Rewound
